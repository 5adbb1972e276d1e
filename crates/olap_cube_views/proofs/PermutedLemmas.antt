-- A total of items doesn't depend on their order.
use Rattle.std.proofs.Common.{◌≡◌, ℕ, zero, suc, ◌<◌, List, [], ◌∷◌, length, get_or, set, refl, sym, ap, ◌∙◌, Option, arith}
use Rattle.std.{proofs.lemmas.List.Edits.swap_is, proofs.lemmas.List.Sorted.IsPermutation-keeps, specs.List.swap}
use Rattle.std.specs.List.Sorted.{IsPermutation}
use Rattle.olap_base.{proofs.TotalLemmas.{total_by, totals_exchanged}, specs.Summaries.{Summary, ◌⊕◌}}

module _ {A : Type 0} (f : A → Option Summary) where
  -- the item at j before the list that has another in its place
  traded : (x : A) (xs : List A) (j : ℕ) (d : A) → j < length xs
      → f (get_or xs j d) ⊕ total_by f (set xs j x) ≡ f x ⊕ total_by f xs
  traded x [] j d h = absurd (omega arith)
  traded x (y ∷ ys) zero d h = totals_exchanged (f y) (f x) (total_by f ys)
  traded x (y ∷ ys) (suc j) d h =
      totals_exchanged (f (get_or ys j d)) (f y) (total_by f (set ys j x))
      ∙ ap (λ t. f y ⊕ t) (traded x ys j d (omega arith))
      ∙ totals_exchanged (f y) (f x) (total_by f ys)

  -- two items that change places leave the total as it is
  swapped : (xs : List A) (j k : ℕ) (d : A) → j < length xs → k < length xs
      → total_by f (set (set xs j (get_or xs k d)) k (get_or xs j d)) ≡ total_by f xs
  swapped [] j k d h l = absurd (omega arith)
  swapped (x ∷ xs) zero zero d h l = refl
  swapped (x ∷ xs) zero (suc k) d h l = traded x xs k d (omega arith)
  swapped (x ∷ xs) (suc j) zero d h l = traded x xs j d (omega arith)
  swapped (x ∷ xs) (suc j) (suc k) d h l = ap (λ t. f x ⊕ t) (swapped xs j k d (omega arith) (omega arith))

  -- a total doesn't depend on the order
  pub total_permuted : (xs ys : List A) → IsPermutation xs ys → total_by f xs ≡ total_by f ys
  total_permuted xs ys p = IsPermutation-keeps xs (λ l. total_by f xs ≡ total_by f l) refl (λ l j k h m e.
      e ∙ step l j k h m) ys p
    where
      step : (l : List A) (j k : ℕ) → j < length l → k < length l → total_by f l ≡ total_by f (swap l j k)
      step [] j k h m = absurd (omega arith)
      step (x ∷ l) j k h m = sym (swapped (x ∷ l) j k x h m) ∙ ap (total_by f) (swap_is (x ∷ l) j k x h m)
