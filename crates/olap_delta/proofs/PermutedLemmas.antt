-- Totals of the same facts in another order.
use Rattle.std.proofs.Common.{◌≡◌, ℕ, zero, suc, ◌<◌, List, [], ◌∷◌, ◌++◌, length, get_or, set, cond, refl, sym, ap, ◌∙◌, Option, Some, None, arith}
use Rattle.std.{proofs.lemmas.List.Edits.swap_is, proofs.lemmas.List.Sorted.IsPermutation-keeps, specs.List.swap}
use Rattle.std.specs.List.Sorted.{IsPermutation}
use Rattle.olap_base.proofs.TotalLemmas.{total-append, total-filter, total-map, total_by, total_is, ⊕_none, totals_exchanged}
use Rattle.olap_base.specs.{Instance.Instance, Reaching.reaches, Summaries.{Summary, of_value, ◌⊕◌}}
use Rattle.olap_base.specs.Views.{Fact, total_of_facts, members}

module _ {A : Type 0} (f : A → Option Summary) where
  -- the item at j before the list that has another in its place
  traded : (x : A) (xs : List A) (j : ℕ) (d : A) → j < length xs
      → f (get_or xs j d) ⊕ total_by f (set xs j x) ≡ f x ⊕ total_by f xs
  traded x [] j d h = absurd (omega arith)
  traded x (y ∷ ys) zero d h = totals_exchanged (f y) (f x) (total_by f ys)
  traded x (y ∷ ys) (suc j) d h =
      totals_exchanged (f (get_or ys j d)) (f y) (total_by f (set ys j x))
      ∙ ap (λ t. f y ⊕ t) (traded x ys j d (omega arith))
      ∙ totals_exchanged (f y) (f x) (total_by f ys)

  -- two items that change places leave the total as it is
  swapped : (xs : List A) (j k : ℕ) (d : A) → j < length xs → k < length xs
      → total_by f (set (set xs j (get_or xs k d)) k (get_or xs j d)) ≡ total_by f xs
  swapped [] j k d h l = absurd (omega arith)
  swapped (x ∷ xs) zero zero d h l = refl
  swapped (x ∷ xs) zero (suc k) d h l = traded x xs k d (omega arith)
  swapped (x ∷ xs) (suc j) zero d h l = traded x xs j d (omega arith)
  swapped (x ∷ xs) (suc j) (suc k) d h l = ap (λ t. f x ⊕ t) (swapped xs j k d (omega arith) (omega arith))

  -- a total doesn't depend on the order
  pub total_permuted : (xs ys : List A) → IsPermutation xs ys → total_by f xs ≡ total_by f ys
  total_permuted xs ys p = IsPermutation-keeps xs (λ l. total_by f xs ≡ total_by f l) refl (λ l j k h m e.
      e ∙ step l j k h m) ys p
    where
      step : (l : List A) (j k : ℕ) → j < length l → k < length l → total_by f l ≡ total_by f (swap l j k)
      step [] j k h m = absurd (omega arith)
      step (x ∷ l) j k h m = sym (swapped (x ∷ l) j k x h m) ∙ ap (total_by f) (swap_is (x ∷ l) j k x h m)

-- what a fact adds at y
abbrev pub added : Instance → ℕ → Fact ℕ → Option Summary
added i y f = cond (reaches i f.at y) (Some (of_value f.value)) None

-- the total at a member as a sum over all facts
pub facts_total : (i : Instance) (facts : List (Fact ℕ)) (y : ℕ) → total_of_facts (members i) facts y
    ≡ total_by (added i y) facts
facts_total i facts y = search (total_is, total-map, total-filter)

module _ (i : Instance) (y : ℕ) where
  -- so it is of the facts at a member
  pub facts_permuted : (facts others : List (Fact ℕ)) → IsPermutation facts others
      → total_of_facts (members i) facts y ≡ total_of_facts (members i) others y
  facts_permuted facts others p =
      facts_total i facts y ∙ total_permuted (added i y) facts others p ∙ sym (facts_total i others y)

  -- a fact after the others
  pub fact_behind : (facts : List (Fact ℕ)) (f : Fact ℕ)
      → total_of_facts (members i) (facts ++ f ∷ []) y ≡ total_of_facts (members i) facts y ⊕ added i y f
  fact_behind facts f =
      facts_total i (facts ++ f ∷ []) y ∙ total-append (added i y) facts (f ∷ [])
      ∙ ap (λ t. total_by (added i y) facts ⊕ t) (⊕_none (added i y f))
      ∙ ap (λ t. t ⊕ added i y f) (sym (facts_total i facts y))

  -- a fact among the others
  pub fact_among : (left : List (Fact ℕ)) (f : Fact ℕ) (right : List (Fact ℕ))
      → total_of_facts (members i) (left ++ f ∷ right) y ≡ added i y f ⊕ total_of_facts (members i) (left ++ right) y
  fact_among left f right =
      facts_total i (left ++ f ∷ right) y ∙ total-append (added i y) left (f ∷ right)
      ∙ totals_exchanged (total_by (added i y) left) (added i y f) (total_by (added i y) right)
      ∙ ap (λ t. added i y f ⊕ t) (sym (total-append (added i y) left right) ∙ sym (facts_total i (left ++ right) y))
