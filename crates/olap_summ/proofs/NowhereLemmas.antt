-- What a search finds, or doesn't, in all legal instances.
use Rattle.std.proofs.Common.{◌≡◌, ℕ, Bool, refl, sym, ◌↔◌, ◌∙◌, true, false, Option, Some, None}
use Rattle.std.specs.Prelude.{IfSome, IsNone, IsTrue, is_some, not}
use Rattle.olap_base.specs.{Graph.IsHierarchy, Instance.Instance}
use Rattle.olap_ast.{proofs.Decided.decide_holds, proofs.SmallModel.frozen_exactly, specs.Findings.IsUnsatisfiable}
use Rattle.olap_ast.specs.{Formula.{Formula, Formula.Truth, Formula.Not, Holds}, Frozen.{AreCandidates, Candidates}}
use Rattle.olap_ast.specs.{Questions.{IsImplied, NoneFrozen}, Schema.Schema}
use Rattle.olap_names.specs.Names.{candidates_of}
use Rattle.olap_frozen.specs.{LeastFound.{IsLeastFound, frozen_of}, declared.founding.Found.Found}
use Rattle.olap_dimsat.specs.OneFound.{IsOneFound}
use Rattle.olap_summ.specs.Answers.{IsNowhere}

-- where no frozen dimension was found
pub nowhere : (s : Schema) (q : Formula) (r : ℕ) (k : Candidates) → IsHierarchy s.graph → AreCandidates s q k
    → NoneFrozen s q r k → IsNowhere s q r
nowhere s q r k h are n i l x m t = let f = (frozen_exactly s q r k h are).1 (i, l, x, m, t) in n f.0 f.1

-- what was found is the root's part of a legal instance
pub somewhere : (s : Schema) (q : Formula) (r : ℕ) (found : Found) → IsHierarchy s.graph → IsOneFound s q r found
    → IsNowhere s q r → ⊥
somewhere s q r found h one n =
    let m = (frozen_exactly s q r (candidates_of found.candidates) h one.candidates).0
    (frozen_of found.frozen, one.is_one) in
    n m.0 m.1 m.2 m.3 m.4

-- the least one is one
pub one_of : (s : Schema) (q : Formula) (r : ℕ) (found : Found) → IsLeastFound s q r found → IsOneFound s q r found
one_of s q r found l = record {
  root = l.root;
  sized = l.sized;
  zero = l.zero;
  candidates = l.least.candidates;
  is_one = l.least.is_one;
}

-- none, where it is so
pub none_is : (A P : Type 0) → P → IsNone {T = A} None ↔ P
none_is A P p = (λ e. p, λ q. refl)

-- some, where it isn't so
pub some_is : {A : Type 0} (a : A) (P : Type 0) → (P → ⊥) → IsNone (Some a) ↔ P
some_is a P n = (λ e. absurd (let z : true ≡ false = e in cc), λ p. absurd (n p))

-- what was found contradicts it
pub some_told : {A : Type 0} (o : Option A) (P : A → Type 0) (Q : Type 0) → is_some o ≡ true → IfSome o P
    → ((a : A) → P a → Q → ⊥) → IsNone o ↔ Q
some_told None P Q e h n = absurd (let t : false ≡ true = e in cc)
some_told (Some a) P Q e h n = some_is a Q (n a h)

-- a test for none
pub none_told : {A : Type 0} (o : Option A) (r : Bool) (P : Type 0) → is_some o ≡ not r → IsNone o ↔ P → IsTrue r ↔ P
none_told o true P e n = (λ h. n.0 e, λ p. refl)
none_told o false P e n = (λ h. absurd (cc), λ p. absurd (let t : true ≡ false = sym e ∙ n.1 p in cc))

-- what is equivalent to a question's answer
pub as_well : (N P Q : Type 0) → N ↔ P → (P → Q) → (Q → P) → N ↔ Q
as_well N P Q e f g = (λ n. f (e.0 n), λ q. e.1 (g q))

-- that no member is anywhere is: the category can't have one
pub unsatisfiable_is : (s : Schema) (c : ℕ) (N : Type 0) → N ↔ IsNowhere s Truth c → N ↔ IsUnsatisfiable s c
unsatisfiable_is s c N e = as_well N (IsNowhere s Truth c) (IsUnsatisfiable s c) e
    (λ n i l x m. n i l x m tt) (λ u i l x m t. u i l x m)

-- that the negation is true nowhere is: the constraint is implied
pub implied_is : (s : Schema) (r : ℕ) (q : Formula) (N : Type 0) → N ↔ IsNowhere s (Not q) r → N ↔ IsImplied s r q
implied_is s r q N e = as_well N (IsNowhere s (Not q) r) (IsImplied s r q) e
    (λ n i l x m. holds i x (decide_holds i x q) (n i l x m)) (λ u i l x m h. h (u i l x m))
  where
    holds : (i : Instance) (x : ℕ) → Dec (Holds i x q) → (Holds i x (Not q) → ⊥) → Holds i x q
    holds i x (yes h) n = h
    holds i x (no h) n = absurd (n h)
