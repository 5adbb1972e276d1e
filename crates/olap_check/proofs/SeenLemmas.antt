-- What is remembered of atoms: one entry more, and none.
use Rattle.std.proofs.Common.{◌≡◌, ℕ, ◌<◌, zero, suc, List, length, replicate, set, get_or, refl, sym, subst, inl, inr}
use Rattle.std.proofs.lemmas.{Bool.cases_eq, Grind.get_or-set_at, List.{get_or-set_other, get_or_default}}
use Rattle.std.specs.{FinSet.FinSet, Ordering.nat_cmp, Prelude.{Option, Some, None}}
use Rattle.olap_ast.specs.{Formula.{ReachesNamed, ReachesNumbered}, Trees.op_of}
use Rattle.olap_base.specs.Instance.{Instance}
use Rattle.olap_bits.specs.Sets.{members}
use Rattle.olap_check.specs.Seen.{AreRight, GoesOn, IsAtomAt, IsKept, IsRight, IsSameAtom, IsSo}
use Rattle.olap_check.specs.declared.{asked.Asked.Asked, seen.Entry.Entry}
use Rattle.olap_check.specs.declared.asked.Asked.TheVariants as asked

-- what asks the same as another, that asks the same as it
pub same_sym : (a b : Asked) → IsSameAtom a b → IsSameAtom b a
same_sym (asked.GoesOn l c d) (asked.GoesOn m e f) s = (sym s.0, sym s.1, sym s.2)
same_sym (asked.GoesOn l c d) (asked.Named e t) s = s
same_sym (asked.Named c n) (asked.GoesOn m e f) s = s
same_sym (asked.GoesOn l c d) (asked.Compares e o m) s = s
same_sym (asked.Named c n) (asked.Named d t) s = (sym s.0, sym s.1)
same_sym (asked.Named c n) (asked.Compares e o m) s = s
same_sym (asked.Compares c o m) (asked.GoesOn l e f) s = s
same_sym (asked.Compares c o m) (asked.Named e t) s = s
same_sym (asked.Compares c o m) (asked.Compares d p n) s = (sym s.0, sym s.1, sym s.2)

module _ (i : Instance) (root start : ℕ) (set : FinSet nat_cmp) where
  -- what is kept of one atom is so of each that asks the same
  pub kept_like : (a b : Asked) → IsSameAtom a b → IsKept i root start (IsSo i a) set
      → IsKept i root start (IsSo i b) set
  kept_like (asked.GoesOn l c d) (asked.GoesOn m e f) s kept =
      let first = subst (λ y. IsKept i root start (GoesOn i l y d.0) set) s.1 kept in
      let second = subst (λ y. IsKept i root start (GoesOn i l e.0 y) set) s.2 first in
      subst (λ w. IsKept i root start (GoesOn i w e.0 f.0) set) s.0 second
  kept_like (asked.GoesOn l c d) (asked.Named e t) s kept = absurd s
  kept_like (asked.Named c n) (asked.GoesOn m e f) s kept = absurd s
  kept_like (asked.Named c n) (asked.Named d t) s kept =
      let first = subst (λ y. IsKept i root start (λ x. ReachesNamed i x y n.now) set) s.0 kept in
      subst (λ y. IsKept i root start (λ x. ReachesNamed i x d.0 y) set) s.1 first
  kept_like (asked.GoesOn l c d) (asked.Compares e o m) s kept = absurd s
  kept_like (asked.Named c n) (asked.Compares e o m) s kept = absurd s
  kept_like (asked.Compares c o m) (asked.GoesOn l e f) s kept = absurd s
  kept_like (asked.Compares c o m) (asked.Named e t) s kept = absurd s
  kept_like (asked.Compares c o m) (asked.Compares d p n) s kept =
      let first = subst (λ y. IsKept i root start (λ x. ReachesNumbered i x y (op_of o) m) set) s.0 kept in
      let second = subst (λ y. IsKept i root start (λ x. ReachesNumbered i x d.0 (op_of y) m) set) s.1 first in
      subst (λ y. IsKept i root start (λ x. ReachesNumbered i x d.0 (op_of p) y) set) s.2 second

module _ (i : Instance) (atoms : List Asked) (entries : List (Option Entry)) where
  -- one entry more
  pub right_more : (k : ℕ) (atom : Asked) (entry : Entry) → k < length entries → IsAtomAt atoms k atom
      → AreRight i atoms entries → IsKept i entry.root.0 entry.start (IsSo i atom) (members entry.places)
      → AreRight i atoms (set entries k (Some entry))
  right_more k atom entry inside at seen kept = record {
    right = λ j a h q. elim (cases_eq j k) [
      | inl e ↦
          let same = at.same a (subst (λ n. a ≡ get_or atoms n a) e q) in
          let own = kept_like i entry.root.0 entry.start (members entry.places) atom a (same_sym a atom same) kept in
          subst (λ r. IsRight i (IsSo i a) r) (sym (get_or-set_at entries k j (Some entry) None e inside)) own
      | inr ne ↦
          subst (λ r. IsRight i (IsSo i a) r) (sym (get_or-set_other entries k j (Some entry) None ne))
          (seen.right j a h q)
    ];
  }

  -- what is kept at the place of an atom is so of that atom
  pub right_at : (k : ℕ) (atom : Asked) (entry : Entry) → IsAtomAt atoms k atom → AreRight i atoms entries
      → get_or entries k None ≡ Some entry → IsKept i entry.root.0 entry.start (IsSo i atom) (members entry.places)
  right_at k atom entry at seen e =
      let a = get_or atoms k atom in
      let is = get_or_default atoms k atom a at.inside in
      let right = subst (λ r. IsRight i (IsSo i a) r) e (seen.right k a at.inside is) in
      kept_like i entry.root.0 entry.start (members entry.places) a atom (at.same a is) right

-- if there is no entry each is right
right_none : (i : Instance) (P : ℕ → Type 0) (n k : ℕ) → IsRight i P (get_or (replicate n None) k None)
right_none i P zero k = tt
right_none i P (suc n) zero = tt
right_none i P (suc n) (suc k) = right_none i P n k

-- no entry at all
pub all_none : (i : Instance) (atoms : List Asked) (n : ℕ) (entries : List (Option Entry))
    → entries ≡ replicate n None → AreRight i atoms entries
all_none i atoms n entries e = record {
  right = λ k a h q.
      subst (λ l. IsRight i (IsSo i a) (get_or l k None)) (sym e) (right_none i (IsSo i a) n k);
}

-- where nothing else is so, it is none
pub only_none : {A : Type 0} (Q : Option A → Type 0) → ((x : A) → Q (Some x) → ⊥) → (y : Option A) → Q y → y ≡ None
only_none Q f None q = refl
only_none Q f (Some x) q = absurd (f x q)
