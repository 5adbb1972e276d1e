-- Marks of numbers, and lists that are gone over from the first on: what each search upwards stands on.
use Rattle.std.proofs.Common.{◌≡◌, ◌≢◌, ℕ, zero, suc, ◌+◌, ◌<◌, ◌⊎◌, List, [], ◌∷◌, length, get_or, set, take, Bool, true, false, refl, ap, sym, subst, ◌∙◌, inl, inr, arith, get_or-set_same, get_or-set_other}
use Rattle.std.proofs.lemmas.List.{take_more, get_or_default}
use Rattle.std.proofs.lemmas.List.Elements.{Contains-append_left, Contains-push, Contains-push_cases}
use Rattle.std.specs.Prelude.{Contains, Option, Some, None, MatchOption}
use Rattle.olap_graph.specs.{Marking.unmarked_count, Tables.IsMarked}
use native.Mathlib.Decide.{ℕ_discrete}

-- ---- one mark

-- the new mark
pub same_marked : (ms : List Bool) (k : ℕ) → k < length ms → IsMarked (set ms k true) k
same_marked ms k h = rw get_or-set_same

-- the old marks stay
pub kept_marked : (ms : List Bool) (k y : ℕ) → k < length ms → IsMarked ms y → IsMarked (set ms k true) y
kept_marked ms k y h m = elim (ℕ_discrete y k) [
  | yes e ↦ subst (λ z. IsMarked (set ms k true) z) (sym e) (same_marked ms k h)
  | no n ↦ let ne : y ≢ k = n in rw get_or-set_other m
]

-- and no other comes
pub from_marked : (ms : List Bool) (k y : ℕ) → IsMarked (set ms k true) y → IsMarked ms y ⊎ (y ≡ k)
from_marked ms k y m = elim (ℕ_discrete y k) [
  | yes e ↦ inr e
  | no n ↦ let ne : y ≢ k = n in inl (rw get_or-set_other at m)
]

-- a mark that is set leaves one fewer unset
pub unmarked_set : (ms : List Bool) (k : ℕ) → k < length ms → get_or ms k false ≡ false
    → suc (unmarked_count (set ms k true)) ≡ unmarked_count ms
unmarked_set [] k h e = absurd (omega arith)
unmarked_set (true ∷ ms) zero h e = absurd (cc)
unmarked_set (false ∷ ms) zero h e = refl
unmarked_set (true ∷ ms) (suc k) h e = unmarked_set ms k (omega arith) e
unmarked_set (false ∷ ms) (suc k) h e = ap suc (unmarked_set ms k (omega arith) e)

-- what an index read says of the mark
pub mark_is : (marks : List Bool) (p : ℕ) (r b : Bool) → p < length marks → r ≡ get_or marks p r → r ≡ b
    → get_or marks p false ≡ b
mark_is marks p r b h e q = get_or_default marks p false r h ∙ sym e ∙ q

-- ---- the first elements of a list

-- an element of one more is one before or the last
pub take_cases : (ps : List ℕ) (k y : ℕ) → k < length ps → Contains (take (k + 1) ps) y
    → Contains (take k ps) y ⊎ (get_or ps k 0 ≡ y)
take_cases ps k y h c =
    Contains-push_cases (take k ps) (get_or ps k 0) y (subst (λ l. Contains l y) (take_more ps k 0 h) c)

-- one before is among one more
pub take_before : (ps : List ℕ) (k y : ℕ) → k < length ps → Contains (take k ps) y → Contains (take (k + 1) ps) y
take_before ps k y h c =
    subst (λ l. Contains l y) (sym (take_more ps k 0 h)) (Contains-append_left (take k ps) (get_or ps k 0 ∷ []) y c)

-- the last is among one more
pub take_last : (ps : List ℕ) (k : ℕ) → k < length ps → Contains (take (k + 1) ps) (get_or ps k 0)
take_last ps k h =
    subst (λ l. Contains l (get_or ps k 0)) (sym (take_more ps k 0 h)) (Contains-push (take k ps) (get_or ps k 0))

-- ---- where nothing is left

-- a list of length 0
pub no_items : (xs : List ℕ) → length xs ≡ 0 → xs ≡ []
no_items [] e = refl
no_items (x ∷ xs) e = absurd (omega arith)

-- an option that is not Some
pub none_case : (o : Option ℕ) (P : Type 0) (Q : ℕ → Type 0) → ((x : ℕ) → o ≡ Some x → ⊥) → MatchOption o P Q → P
none_case None P Q f m = m
none_case (Some x) P Q f m = absurd (f x refl)
