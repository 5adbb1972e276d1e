-- Rows that are empty, flipped at a column, or added.
use Rattle.std.proofs.Common.{◌≡◌, ℕ, ◌+◌, ◌*◌, ◌/◌, ◌%◌, ◌^◌, ◌<◌, ◌≤◌, Bool, false, inl, inr, eqb, List, length, get_or, set, replicate, refl, ap, sym, ◌∙◌, subst, arith}
use Rattle.std.proofs.{Math.Path.ap₂, lemmas.Bool.{cases_eq, cases_lt, eq-eqb, ne_eqb}}
use Rattle.std.proofs.lemmas.List.{get_or_past, get_or-set_same, get_or-set_other, length-set, get_or-replicate, length-replicate}
use Rattle.std.{proofs.lemmas.Nat.one_shl, specs.Prelude.bit_xor}
use Rattle.olap_parities.proofs.BitLemmas.{is_one, is_one-xor, is_one-zero, is_one-pow}
use Rattle.olap_parities.proofs.SumLemmas.{sum-same, sum-none, sum-xor, sum-one, xor-false}
use Rattle.olap_parities.specs.Sums.{xor, is_bit_one, sum_below, sum_of}

-- the first k words are those of a and b added, and the others are a's
pub record IsAdded (a b words : List ℕ) (k : ℕ) : Type 0 where
  pub same_length : length words ≡ length a
  pub done : (j : ℕ) → j < k → get_or words j 0 ≡ bit_xor (get_or a j 0) (get_or b j 0)
  pub left : (j : ℕ) → k ≤ j → get_or words j 0 ≡ get_or a j 0

module _ {a b : List ℕ} where
  -- before the first word
  pub added_start : IsAdded a b a 0
  added_start = record { same_length = refl; done = λ j h. absurd (omega arith); left = λ j h. refl }

  -- one word more
  pub added_step : {words : List ℕ} {k : ℕ} → IsAdded a b words k → k < length a
      → IsAdded a b (set words k (bit_xor (get_or words k 0) (get_or b k 0))) (k + 1)
  added_step {words} {k} is h =
      let within : k < length words = omega (arith, is.same_length) in
      record {
        same_length = length-set words k _ ∙ is.same_length;
        done = λ j l. elim (cases_eq j k) [
          | inl e ↦
              let new = bit_xor (get_or words k 0) (get_or b k 0) in
              subst (λ i. get_or (set words k new) i 0 ≡ bit_xor (get_or a i 0) (get_or b i 0)) (sym e)
              (get_or-set_same words k _ 0 within ∙ ap (λ w. bit_xor w (get_or b k 0)) (is.left k (omega arith)))
          | inr ne ↦ get_or-set_other words k j _ 0 ne ∙ is.done j (omega arith)
        ];
        left = λ j l. get_or-set_other words k j _ 0 (λ e. omega arith) ∙ is.left j (omega arith);
      }

  -- all words, and 0 past them
  all_added : {words : List ℕ} {k : ℕ} → IsAdded a b words k → length a ≤ k → length b ≤ k
      → (j : ℕ) → get_or words j 0 ≡ bit_xor (get_or a j 0) (get_or b j 0)
  all_added {words} {k} is p q j = elim (cases_lt j k) [
    | inl h ↦ is.done j h
    | inr h ↦
        let past_a = get_or_past a j 0 (omega arith) in
        let past_b = get_or_past b j 0 (omega arith) in
        is.left j h ∙ past_a ∙ sym (ap (λ w. bit_xor w (get_or b j 0)) past_a ∙ ap (λ w. bit_xor 0 w) past_b)
  ]

  -- the sum of a row that is added to another
  pub sum_added : {words : List ℕ} {k : ℕ} → IsAdded a b words k → length a ≤ k → length b ≡ length a
      → (w : ℕ → Bool) → sum_of w words ≡ xor (sum_of w a) (sum_of w b)
  sum_added {words} {k} is p q w =
      let n = 64 * length a in
      ap (λ m. sum_below w (is_bit_one words) (64 * m)) is.same_length
      ∙ sum-same w (is_bit_one words) (λ i. xor (is_bit_one a i) (is_bit_one b i))
      (λ i. ap (λ word. is_one word (i % 64)) (all_added is p (omega arith) (i / 64)) ∙ is_one-xor _ _ (i % 64)) n
      ∙ sum-xor w (is_bit_one a) (is_bit_one b) n
      ∙ ap (λ m. xor (sum_of w a) (sum_below w (is_bit_one b) (64 * m))) (sym q)

-- words that are 0 have no sum
pub sum_zeros : (words : List ℕ) (k : ℕ) → length words ≤ k → ((j : ℕ) → j < k → get_or words j 0 ≡ 0)
    → (w : ℕ → Bool) → sum_of w words ≡ false
sum_zeros words k p zeros w =
    sum-none w (is_bit_one words)
    (λ i. ap (λ word. is_one word (i % 64)) (at (i / 64)) ∙ is_one-zero (i % 64)) _
  where
    at : (j : ℕ) → get_or words j 0 ≡ 0
    at j = elim (cases_lt j k) [ inl h ↦ zeros j h | inr h ↦ get_or_past words j 0 (omega arith) ]

-- as many zeros have no sum
pub sum_replicate : (n : ℕ) (w : ℕ → Bool) → sum_of w (replicate n 0) ≡ false
sum_replicate n w =
    sum_zeros (replicate n 0) n (omega (arith, length-replicate {A = ℕ} n 0)) (λ j h. get_or-replicate n j 0 0 h) w

-- the word of this bit, with the bit turned
abbrev turned : List ℕ → ℕ → ℕ
turned words n = bit_xor (get_or words (n / 64) 0) (1 * 2 ^ (n % 64) % 2 ^ 64)

-- one bit turned
module _ (words : List ℕ) (n : ℕ) (within : n / 64 < length words) where
  -- which bits are 1 after the turn
  bit_turned : (q : ℕ) → is_bit_one (set words (n / 64) (turned words n)) q
      ≡ xor (is_bit_one words q) (eqb q n)
  bit_turned q = elim (cases_eq (q / 64) (n / 64)) [
    | inl e ↦
        ap (λ j. is_one (get_or (set words (n / 64) (turned words n)) j 0) (q % 64)) e
        ∙ ap (λ word. is_one word (q % 64)) (get_or-set_same words (n / 64) (turned words n) 0 within)
        ∙ is_one-xor _ _ (q % 64)
        ∙ ap₂ xor (ap (λ j. is_one (get_or words j 0) (q % 64)) (sym e))
        (ap (λ m. is_one m (q % 64)) (one_shl (n % 64) 64 (omega arith)) ∙ is_one-pow (n % 64) (q % 64) ∙ here e)
    | inr ne ↦
        ap (λ word. is_one word (q % 64)) (get_or-set_other words (n / 64) (q / 64) (turned words n) 0 ne)
        ∙ sym (ap (xor (is_bit_one words q)) (ne_eqb q n (λ e. ne (ap (λ m. m / 64) e))) ∙ xor-false _)
  ]
    where
      here : q / 64 ≡ n / 64 → eqb (q % 64) (n % 64) ≡ eqb q n
      here e = elim (cases_eq q n) [
        | inl same ↦ ap (λ m. eqb (m % 64) (n % 64)) same ∙ eq-eqb (n % 64) (n % 64) refl ∙ sym (eq-eqb q n same)
        | inr ne ↦ ne_eqb (q % 64) (n % 64) (λ d. ne (omega arith)) ∙ sym (ne_eqb q n ne)
      ]

  -- the sum after a column is turned
  pub sum_turned : (w : ℕ → Bool)
      → sum_of w (set words (n / 64) (turned words n)) ≡ xor (sum_of w words) (w n)
  sum_turned w =
      ap (λ m. sum_below w (is_bit_one (set words (n / 64) (turned words n))) (64 * m))
      (length-set words (n / 64) (turned words n))
      ∙ sum-same w _ (λ i. xor (is_bit_one words i) (eqb i n)) bit_turned (64 * length words)
      ∙ sum-xor w (is_bit_one words) (λ i. eqb i n) (64 * length words)
      ∙ ap (xor (sum_of w words)) (sum-one w n (64 * length words) (omega arith))
