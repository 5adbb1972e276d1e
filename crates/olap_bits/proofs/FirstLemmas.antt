-- The least number of a set.
use Rattle.std.proofs.Common.{◌≡◌, ◌≢◌, ℕ, ◌+◌, ◌*◌, ◌/◌, ◌%◌, ◌^◌, ◌<◌, true, inl, inr, eqb, List, get_or, ap, sym, ◌∙◌, arith}
use Rattle.std.proofs.lemmas.{Bool.{cases_lt, eq-eqb, both_ways}, Nat.Bits.bit_at-trailing_zeros}
use Rattle.std.specs.{FinSet.{FinSet, empty, contains, contains-empty}, Int.{bit_at, trailing_zeros, w64}}
use Rattle.std.specs.Ordering.{nat_cmp}
use Rattle.olap_bits.proofs.{BitLemmas.{is_one, is_one-zero}, CatSetLemmas.contains-numbers_of}
use Rattle.olap_bits.specs.CatSet.{is_bit_one, numbers_of, IsLeast}

module _ (words : List ℕ) (k : ℕ) (zeros : (j : ℕ) → j < k → get_or words j 0 ≡ 0) where
  -- words that are 0 have no number
  none_in_zeros : (q : ℕ) → q / 64 < k → is_bit_one words q ≡ true → ⊥
  none_in_zeros q h one =
      both_ways _ (ap (λ w. is_one w (q % 64)) (zeros (q / 64) h) ∙ is_one-zero (q % 64)) one

  -- the lowest bit of the first word that isn't 0 is the least number
  pub least_of : (n : ℕ) → get_or words k 0 ≢ 0 → get_or words k 0 < 2 ^ 64
      → n ≡ k * 64 + trailing_zeros w64 (get_or words k 0) → IsLeast (numbers_of words) n
  least_of n ne small is = record {
    is_one = contains-numbers_of words n ∙ (λ i. is_one (get_or words (place.0 i) 0) (place.1 i)) ∙ eq-eqb _ 1 lowest.1;
    least = λ m one. elim (cases_lt m n) [
      | inl h ↦ absurd (earlier m h (sym (contains-numbers_of words m) ∙ one))
      | inr h ↦ h
    ];
  }
    where
      word : ℕ
      word = get_or words k 0

      lowest : (trailing_zeros w64 word < 64) × (bit_at word (trailing_zeros w64 word) ≡ 1)
          × ((i : ℕ) → i < trailing_zeros w64 word → bit_at word i ≡ 0)
      lowest = bit_at-trailing_zeros w64 word (omega arith) small

      place : (n / 64 ≡ k) × (n % 64 ≡ trailing_zeros w64 word)
      place = let h = lowest.0 in (omega arith, omega arith)

      earlier : (m : ℕ) → m < n → is_bit_one words m ≡ true → ⊥
      earlier m h one = elim (cases_lt (m / 64) k) [
        | inl l ↦ none_in_zeros m l one
        | inr l ↦
            let t = lowest.0 in
            let same : m / 64 ≡ k = omega arith in
            let lower : m % 64 < trailing_zeros w64 word = omega arith in
            let none = ap (λ b. eqb b 1) (lowest.2 (m % 64) lower) in
            both_ways _ (ap (λ j. is_one (get_or words j 0) (m % 64)) same ∙ none) one
      ]

-- a set with a least number isn't empty
pub not_empty : (s : FinSet nat_cmp) (n : ℕ) → IsLeast s n → s ≡ empty → ⊥
not_empty s n l e =
    both_ways _ (ap (λ (t : FinSet nat_cmp). contains t n) e ∙ contains-empty nat_cmp n) l.is_one
