-- Subsets word by word.
use Rattle.std.proofs.Common.{◌≡◌, ◌≢◌, ℕ, ◌+◌, ◌*◌, ◌/◌, ◌%◌, ◌^◌, ◌<◌, ◌≤◌, Bool, true, false, not, ◌&&◌, inl, inr, List, length, get_or, refl, ap, sym, ◌∙◌, subst, arith}
use Rattle.std.proofs.lemmas.Bool.{cases_lt, eq-eqb, and_parts, not-true, both_ways, false_from_ne_true}
use Rattle.std.proofs.lemmas.{List.get_or_past, Nat.and_le_l, Nat.Bits.bit_at-trailing_zeros}
use Rattle.std.specs.{Cmp.nat_cmp_total, FinSet.{is_subset, contains-is_subset, is_subset-contains}}
use Rattle.std.specs.{Int.{bit_at, bit_not, trailing_zeros, w64}, Prelude.bit_and}
use Rattle.olap_bits.proofs.BitLemmas.{is_one, is_one-without, is_one-zero}
use Rattle.olap_bits.{proofs.CatSetLemmas.{contains-numbers_of, at_place}, specs.CatSet.{is_bit_one, numbers_of}}

-- what is left of a word of a without the word of b
abbrev pub left_over : List ℕ → List ℕ → ℕ → ℕ
left_over a b j = bit_and (get_or a j 0) (bit_not w64 (get_or b j 0))

-- nothing is left of a word, and the word of b is one
pub record HasNoneLeft (a b : List ℕ) (j : ℕ) : Type 0 where
  pub small : get_or b j 0 < 2 ^ 64
  pub none : left_over a b j ≡ 0

module _ (a b : List ℕ) where
  -- a bit that is left is one of a that isn't one of b
  left_bit : (q : ℕ) → get_or b (q / 64) 0 < 2 ^ 64
      → is_one (left_over a b (q / 64)) (q % 64) ≡ (is_bit_one a q && not (is_bit_one b q))
  left_bit q small = is_one-without _ _ (q % 64) small (omega arith)

  -- where nothing is left no number of a is missing in b
  none_left : (q : ℕ) → HasNoneLeft a b (q / 64) → (is_bit_one a q && not (is_bit_one b q)) ≡ false
  none_left q n = sym (left_bit q n.small) ∙ ap (λ w. is_one w (q % 64)) n.none ∙ is_one-zero (q % 64)

  -- from 'not s without t'
  follows : (s t : Bool) → (s && not t) ≡ false → s ≡ true → t ≡ true
  follows s true e h = refl
  follows true false e h = absurd (cc)
  follows false false e h = absurd (cc)

  -- where nothing is left of any word, each number of a is in b
  pub subset_of : (k : ℕ) → length a ≤ k → length b ≤ k → ((j : ℕ) → j < k → HasNoneLeft a b j)
      → is_subset (numbers_of a) (numbers_of b) ≡ true
  subset_of k p r f =
      contains-is_subset nat_cmp_total _ _
      (λ q h. contains-numbers_of b q
      ∙ follows (is_bit_one a q) (is_bit_one b q) (none_left q (all (q / 64))) (sym (contains-numbers_of a q) ∙ h))
    where
      all : (j : ℕ) → HasNoneLeft a b j
      all j = elim (cases_lt j k) [
        | inl h ↦ f j h
        | inr h ↦
            let past_b = get_or_past b j 0 (omega arith) in
            record {
              small = omega (arith, past_b);
              none =
                  ap (λ w. bit_and w (bit_not w64 (get_or b j 0))) (get_or_past a j 0 (omega arith))
                  ∙ ap (λ w. bit_and 0 (bit_not w64 w)) past_b;
            }
      ]

  -- a word with a 1 left has a number in a that isn't in b
  pub no_subset_of : (k : ℕ) → get_or a k 0 < 2 ^ 64 → get_or b k 0 < 2 ^ 64 → left_over a b k ≢ 0
      → is_subset (numbers_of a) (numbers_of b) ≡ false
  no_subset_of k small small_b ne = false_from_ne_true _ (λ e. both_ways (is_bit_one b q) absent (present e))
    where
      place : ℕ
      place = trailing_zeros w64 (left_over a b k)

      lowest : (place < 64) × (bit_at (left_over a b k) place ≡ 1)
          × ((i : ℕ) → i < place → bit_at (left_over a b k) i ≡ 0)
      lowest =
          bit_at-trailing_zeros w64 (left_over a b k) (omega arith)
          (omega (arith, and_le_l (get_or a k 0) (bit_not w64 (get_or b k 0))))

      q : ℕ
      q = 64 * k + place

      left : (is_bit_one a q && not (is_bit_one b q)) ≡ true
      left =
          let at = at_place k place lowest.0 in
          let within : get_or b (q / 64) 0 < 2 ^ 64 = subst (λ j. get_or b j 0 < 2 ^ 64) (sym at.0) small_b in
          sym (left_bit q within) ∙ (λ i. is_one (left_over a b (at.0 i)) (at.1 i)) ∙ eq-eqb _ 1 lowest.1

      absent : is_bit_one b q ≡ false
      absent = not-true _ (and_parts (is_bit_one a q) (not (is_bit_one b q)) left).1

      present : is_subset (numbers_of a) (numbers_of b) ≡ true → is_bit_one b q ≡ true
      present e =
          sym (contains-numbers_of b q)
          ∙ is_subset-contains nat_cmp_total _ _ e q
          (contains-numbers_of a q ∙ (and_parts (is_bit_one a q) (not (is_bit_one b q)) left).0)
