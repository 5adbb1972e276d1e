-- The rows of a category, member by member.
use Rattle.std.proofs.Common.{◌≡◌, ◌≢◌, ℕ, suc, ◌+◌, List, [], ◌∷◌, ◌++◌, Bool, true, false, cond, refl, ap, sym, ◌∙◌, arith, Option, Some, None}
use Rattle.std.proofs.lemmas.{Bool.Decides.nat_tests, List.append-nil, List.Elements.{filter-append, filter_map-append}}
use Rattle.std.specs.{List.range_with_len, Prelude.{◌==◌, filter, filter_map}}
use Rattle.olap_base.proofs.{ListLemmas.{range_more, filter_map_same}, ViewLemmas.members_of_is}
use Rattle.olap_base.specs.{Instance.{Instance, IsMemberOf}, Views.{Row, members_of}}

-- the list after y, which passes or doesn't, and gives an item or doesn't
abbrev pub list_after : {A : Type 0} → List A → Bool → Option A → List A
list_after xs false o = xs
list_after xs true None = xs
list_after xs true (Some x) = xs ++ x ∷ []

-- one item more, if it passes and has a result
pub list_step : {A : Type 0} (h : ℕ → Option A) (p : ℕ → Bool) (y : ℕ) (b : Bool) (o : Option A) (xs : List A)
    → xs ≡ filter_map h (filter p (range_with_len 0 y)) → p y ≡ b → o ≡ h y
    → list_after xs b o ≡ filter_map h (filter p (range_with_len 0 (y + 1)))
list_step {A} h p y b o xs e t q =
    let z : 0 + y ≡ y = omega arith in
    let n : y + 1 ≡ suc y = omega arith in
    let range : range_with_len 0 (y + 1) ≡ range_with_len 0 y ++ y ∷ [] = ap (range_with_len 0) n ∙ range_more 0 y
    ∙ ap (λ k. range_with_len 0 y ++ k ∷ []) z in
    go b o t q ∙ sym (ap (λ l. filter_map h (filter p l)) range
    ∙ ap (filter_map h) (filter-append p (range_with_len 0 y) (y ∷ []))
    ∙ filter_map-append h (filter p (range_with_len 0 y)) (filter p (y ∷ []))
    ∙ ap (λ l. l ++ filter_map h (filter p (y ∷ []))) (sym e))
  where
    go : (b : Bool) (o : Option A) → p y ≡ b → o ≡ h y → list_after xs b o ≡ xs ++ filter_map h (cond (p y) (y ∷ []) [])
    go false o t q = rw t (sym (append-nil xs))
    go true None t q = rw (t, ← q) (sym (append-nil xs))
    go true (Some x) t q = rw (t, ← q) refl

-- equal numbers pass the test
pub passes : (a b c : ℕ) → a ≡ b → a ≡ c → (b == c) ≡ true
passes a b c e f = grind (arith, nat_tests)

-- different ones don't
pub fails : (a b c : ℕ) → a ≡ b → a ≢ c → (b == c) ≡ false
fails a b c e f = grind (arith, nat_tests)

-- ---- the members of a category

-- two functions that agree at each member of c
pub rows_same : (i : Instance) (c : ℕ) (h k : ℕ → Option (Row ℕ)) → ((y : ℕ) → IsMemberOf i c y → h y ≡ k y)
    → filter_map h (members_of i c) ≡ filter_map k (members_of i c)
rows_same i c h k f = filter_map_same h k (members_of i c) (λ y m. f y (members_of_is i c y m))
