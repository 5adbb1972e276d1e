-- What is remembered of blocks.
--     StepsVia     a member reaches one of a category that has a parent in another
--     GoesOn       a member reaches one of a category from which it goes on to one of another
--     IsSo         what is asked of a member is so
--     IsSameAtom   two atoms ask the same
--     IsKept       a set has exactly the places of a block at which something is so
--     IsRight      an entry, if it is there, has such a set
--     IsAtomAt     an atom stands at a place of a list
--     AreRight     each set that is remembered of an atom is such a set
--     IsSeen       all that is remembered is right
use Rattle.std.specs.Prelude.{◌≡◌, ℕ, ◌+◌, ◌<◌, ◌↔◌, List, Option, Some, None, length, true, slice_index_or}
use Rattle.std.specs.FinSet.{FinSet, contains}
use Rattle.std.specs.Ordering.{nat_cmp}
use Rattle.olap_ast.specs.Formula.{ReachesNamed, ReachesNumbered}
use Rattle.olap_ast.specs.Trees.{op_of}
use Rattle.olap_base.specs.Instance.{Instance, IsBelow, IsMemberOf, Reaches, ReachesVia}
use Rattle.olap_bits.specs.Sets.{members}
use Rattle.olap_check.specs.Blocks.{width}
use Rattle.olap_check.specs.Groups.{IsNth}
use Rattle.olap_check.specs.declared.asked.Asked.{Asked}
use Rattle.olap_check.specs.declared.asked.Asked.TheVariants as asked
use Rattle.olap_check.specs.declared.seen.Seen.{Seen}
use Rattle.olap_check.specs.declared.seen.Entry.{Entry}
use Rattle.olap_check.specs.declared.asked.Way.{Way}
use Rattle.olap_check.specs.declared.asked.Way.TheVariants.{Reaches as ByReaching, Steps as ByStep}

-- x reaches a member of d that has a member of e as a parent
abbrev pub StepsVia : Instance → ℕ → ℕ → ℕ → Type 0
StepsVia i x d e = (y : ℕ) × IsMemberOf i d y × Reaches i x y × ((z : ℕ) × IsMemberOf i e z × IsBelow i y z)

-- x reaches a member of d from which it goes on that way to a member of e
abbrev pub GoesOn : Instance → Way → ℕ → ℕ → ℕ → Type 0
GoesOn i ByReaching d e x = ReachesVia i x d e
GoesOn i ByStep d e x = StepsVia i x d e

-- what is asked of x is so
abbrev pub IsSo : Instance → Asked → ℕ → Type 0
IsSo i (asked.GoesOn way d e) x = GoesOn i way d.0 e.0 x
IsSo i (asked.Named d text) x = ReachesNamed i x d.0 text.now
IsSo i (asked.Compares d op n) x = ReachesNumbered i x d.0 (op_of op) n

-- the two ask the same
abbrev pub IsSameAtom : Asked → Asked → Type 0
IsSameAtom (asked.GoesOn l c d) (asked.GoesOn m e f) = (l ≡ m) × (c.0 ≡ e.0) × (d.0 ≡ f.0)
IsSameAtom (asked.GoesOn l c d) (asked.Named e t) = ⊥
IsSameAtom (asked.Named c s) (asked.GoesOn m e f) = ⊥
IsSameAtom (asked.GoesOn l c d) (asked.Compares e o m) = ⊥
IsSameAtom (asked.Named c s) (asked.Named d t) = (c.0 ≡ d.0) × (s.now ≡ t.now)
IsSameAtom (asked.Named c s) (asked.Compares e o m) = ⊥
IsSameAtom (asked.Compares c o m) (asked.GoesOn l e f) = ⊥
IsSameAtom (asked.Compares c o m) (asked.Named e t) = ⊥
IsSameAtom (asked.Compares c o m) (asked.Compares d p n) = (c.0 ≡ d.0) × (o ≡ p) × (m ≡ n)

-- of the root's members from the start-th on, as many as a block has, the set has exactly those at which P is so
abbrev pub IsKept : Instance → ℕ → ℕ → (ℕ → Type 0) → FinSet nat_cmp → Type 0
IsKept i root start P set =
    (k x : ℕ) → k < width → IsNth i root (start + k) x → (contains set k ≡ true) ↔ P x

-- an entry that is there has the places of its block at which P is so
abbrev pub IsRight : Instance → (ℕ → Type 0) → Option Entry → Type 0
IsRight i P None = Unit {0}
IsRight i P (Some entry) = IsKept i entry.root.0 entry.start P (members entry.places)

-- the atom stands at this place of a list
pub record IsAtomAt (atoms : List Asked) (k : ℕ) (atom : Asked) : Type 0 where
  pub inside : k < length atoms
  pub same : (a : Asked) → a ≡ slice_index_or atoms k a → IsSameAtom a atom

-- each entry that is there says of its block at which places what the atom of its place asks is so
pub record AreRight (i : Instance) (atoms : List Asked) (entries : List (Option Entry)) : Type 0 where
  pub right : (k : ℕ) (a : Asked) → k < length atoms → a ≡ slice_index_or atoms k a
      → IsRight i (IsSo i a) (slice_index_or entries k None)

-- all that is remembered is right
abbrev pub IsSeen : Instance → Seen → Type 0
IsSeen i seen = AreRight i seen.atoms.items seen.entries.items
