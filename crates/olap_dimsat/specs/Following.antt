-- The frozen dimension that comes next by its code, and lists of those that came so far.
--     NoneMore     none that is as w before a place has more there
--     IsRaised     the least change of one place to more
--     IsRisen      and the least with that change
--     IsBeyond     one comes after another, and differs from it at the first places
--     IsFirstOf    the first one with its first places
--     IsNext       the next such one
--     NoneBeyond   there is no next one
--     HasLike      a list has one with the same first places
--     AreFirsts    the first one for each choice of the first places
--     AreMoreFirsts   there are more of them than a limit
--     IsHanded     a value of the task's root and sizes, with 0 at `All`
use Rattle.std.specs.Prelude.{◌≡◌, ℕ, ◌<◌, ◌≤◌, List, All, AllPairs, Contains, length, slice_index}
use Rattle.olap_ast.specs.Frozen.{Frozen, code}
use Rattle.olap_base.specs.Ranks.{IsNotAfter}
use Rattle.olap_frozen.specs.declared.frozen.Frozen as kept
use Rattle.olap_frozen.specs.Leaves.{IsSized, IsZeroAtAll}
use Rattle.olap_dimsat.specs.Listed.{IsBefore}
use Rattle.olap_dimsat.specs.Pinned.{IsPlace, IsSame, NoneLess}
use Rattle.olap_dimsat.specs.Tasks.{Task, IsOne, graph_of}

-- no frozen dimension that is as w before the place p has more there
abbrev pub NoneMore : Task → ℕ → Frozen → Type 0
NoneMore t p w = (f : Frozen) → IsOne t f → IsSame p f w → slice_index (code w) p < slice_index (code f) p → ⊥

-- x is as w before the place p and has more there, and no frozen dimension of that kind has less there than x
pub record IsRaised (t : Task) (p : ℕ) (w x : Frozen) : Type 0 where
  pub same : IsSame p x w
  pub more : slice_index (code w) p < slice_index (code x) p
  pub least : (f : Frozen) → IsOne t f → IsSame p f w → slice_index (code w) p < slice_index (code f) p
      → slice_index (code x) p ≤ slice_index (code f) p

-- y is raised at the place p, and none that is as y up to this place comes before y
pub record IsRisen (t : Task) (p : ℕ) (w y : Frozen) : Type 0 where
  pub one : IsOne t y
  pub raised : IsRaised t p w y
  pub settled : (q : ℕ) → p < q → IsPlace t q → NoneLess t q y

-- f comes after w, and isn't as w at the first n places
abbrev pub IsBeyond : ℕ → Frozen → Frozen → Type 0
IsBeyond n w f = IsBefore w f × (IsSame n f w → ⊥)

-- w is a frozen dimension, and none that is as w at the first n places comes before w
pub record IsFirstOf (t : Task) (n : ℕ) (w : Frozen) : Type 0 where
  pub one : IsOne t w
  pub least : (f : Frozen) → IsOne t f → IsSame n f w → IsNotAfter (code w) (code f)

-- y is the first one with its first n places, is beyond w, and no other beyond w comes before y
pub record IsNext (t : Task) (n : ℕ) (w y : Frozen) : Type 0 where
  pub first : IsFirstOf t n y
  pub beyond : IsBeyond n w y
  pub least : (f : Frozen) → IsOne t f → IsBeyond n w f → IsNotAfter (code y) (code f)

-- no frozen dimension is beyond w
abbrev pub NoneBeyond : Task → ℕ → Frozen → Type 0
NoneBeyond t n w = (f : Frozen) → IsOne t f → IsBeyond n w f → ⊥

-- one of the list is as f at the first n places
abbrev pub HasLike : ℕ → List Frozen → Frozen → Type 0
HasLike n list f = (h : Frozen) × Contains list h × IsSame n f h

-- for each choice of the first n places that a frozen dimension has, the first one with it, by their codes
pub record AreFirsts (t : Task) (n : ℕ) (list : List Frozen) : Type 0 where
  pub ordered : AllPairs (IsBeyond n) list
  pub sound : All (IsFirstOf t n) list
  pub complete : (f : Frozen) → IsOne t f → HasLike n list f

-- more of them than the limit, each beyond those before it
pub record AreMoreFirsts (t : Task) (n limit : ℕ) : Type 0 where
  pub some : List Frozen
  pub many : limit < length some
  pub ordered : AllPairs (IsBeyond n) some
  pub sound : All (IsFirstOf t n) some

-- the value has the task's root, an entry for each edge and each category, and indexes of candidates; `All` has 0
pub record IsHanded (t : Task) (f : kept.Frozen) : Type 0 where
  pub root : f.root.0 ≡ t.question.root
  pub sized : IsSized (graph_of t) t.question.candidates f.edges f.names
  pub zero : IsZeroAtAll f.names
