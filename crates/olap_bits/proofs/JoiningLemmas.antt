-- Two sets joined word by word: union, intersection, difference.
use Rattle.std.proofs.Common.{◌≡◌, ℕ, ◌/◌, ◌%◌, ◌^◌, ◌<◌, ◌≤◌, not, ◌&&◌, ◌||◌, inl, inr, List, length, get_or, refl, ap, sym, ◌∙◌, arith}
use Rattle.std.{proofs.lemmas.Bool.cases_lt, proofs.lemmas.List.get_or_past, specs.Cmp.nat_cmp_total}
use Rattle.std.specs.FinSet.{union, intersection, difference, contains-union, contains-intersection, contains-difference}
use Rattle.std.specs.{Int.{bit_not, w64}, Prelude.{bit_and, bit_or}}
use Rattle.olap_bits.proofs.BitLemmas.{is_one, is_one-or, is_one-and, is_one-without}
use Rattle.olap_bits.{proofs.CatSetLemmas.{contains-numbers_of, same_numbers}, specs.CatSet.numbers_of}

-- the first k words are those of a and b joined, and the others are a's
pub record IsJoined (f : ℕ → ℕ → ℕ) (a b words : List ℕ) (k : ℕ) : Type 0 where
  pub same_length : length words ≡ length a
  pub done : (j : ℕ) → j < k → get_or words j 0 ≡ f (get_or a j 0) (get_or b j 0)
  pub left : (j : ℕ) → k ≤ j → get_or words j 0 ≡ get_or a j 0

module _ {f : ℕ → ℕ → ℕ} {a b : List ℕ} where
  -- before the first word
  pub joined_start : IsJoined f a b a 0
  joined_start = record { same_length = refl; done = λ j h. absurd (omega arith); left = λ j h. refl }

  -- all words, and 0 past them
  pub joined_all : {words : List ℕ} {k : ℕ} → IsJoined f a b words k → length a ≤ k → length b ≤ k → f 0 0 ≡ 0
      → (j : ℕ) → get_or words j 0 ≡ f (get_or a j 0) (get_or b j 0)
  joined_all {words} {k} is p q z j = elim (cases_lt j k) [
    | inl h ↦ is.done j h
    | inr h ↦
        let past_a = get_or_past a j 0 (omega arith) in
        let past_b = get_or_past b j 0 (omega arith) in
        is.left j h ∙ past_a ∙ sym z ∙ sym (ap (λ w. f w (get_or b j 0)) past_a ∙ ap (λ w. f 0 w) past_b)
  ]

module _ (a b words : List ℕ) where
  -- words joined by `or` have the numbers of both
  pub union_of : ((j : ℕ) → get_or words j 0 ≡ bit_or (get_or a j 0) (get_or b j 0))
      → numbers_of words ≡ union (numbers_of a) (numbers_of b)
  union_of f =
      same_numbers words _
      (λ q. ap (λ w. is_one w (q % 64)) (f (q / 64)) ∙ is_one-or _ _ (q % 64)
      ∙ (λ i. sym (contains-numbers_of a q) i || sym (contains-numbers_of b q) i)
      ∙ sym (contains-union nat_cmp_total _ _ q))

  -- words joined by `and` have the numbers that are in both
  pub meet_of : ((j : ℕ) → get_or words j 0 ≡ bit_and (get_or a j 0) (get_or b j 0))
      → numbers_of words ≡ intersection (numbers_of a) (numbers_of b)
  meet_of f =
      same_numbers words _
      (λ q. ap (λ w. is_one w (q % 64)) (f (q / 64)) ∙ is_one-and _ _ (q % 64)
      ∙ (λ i. sym (contains-numbers_of a q) i && sym (contains-numbers_of b q) i)
      ∙ sym (contains-intersection nat_cmp_total _ _ q))

  -- words joined by `and not` have the numbers of the first alone
  pub minus_of : ((j : ℕ) → get_or b j 0 < 2 ^ 64)
      → ((j : ℕ) → get_or words j 0 ≡ bit_and (get_or a j 0) (bit_not w64 (get_or b j 0)))
      → numbers_of words ≡ difference (numbers_of a) (numbers_of b)
  minus_of within f =
      same_numbers words _
      (λ q. ap (λ w. is_one w (q % 64)) (f (q / 64)) ∙ is_one-without _ _ (q % 64) (within (q / 64)) (omega arith)
      ∙ (λ i. sym (contains-numbers_of a q) i && not (sym (contains-numbers_of b q) i))
      ∙ sym (contains-difference nat_cmp_total _ _ q))
