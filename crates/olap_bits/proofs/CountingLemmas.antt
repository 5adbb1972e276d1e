-- How many numbers a set has.
use Rattle.std.proofs.Common.{◌≡◌, ℕ, zero, suc, ◌+◌, ◌*◌, ◌/◌, ◌%◌, ◌^◌, ◌<◌, ◌≤◌, List, get_or, ap, sym, ◌∙◌, arith}
use Rattle.std.proofs.lemmas.{Bool.{cond_both, cond-false, eqb-true, eqb-false}, Nat.Bits.bit_at-lt}
use Rattle.std.specs.{Cmp.nat_cmp_total, FinSet.{FinSet, len, len-empty, len-insert}, Int.bit_at, Ordering.nat_cmp}
use Rattle.std.specs.Prelude.{count_ones}
use Rattle.olap_bits.proofs.{BitLemmas.{count_ones-zero, count_ones-more}, CatSetLemmas.{not_yet, at_place}}
use Rattle.olap_bits.specs.CatSet.{is_bit_one, numbers_below}

module _ (words : List ℕ) where
  -- one more bit
  len-more : (m : ℕ)
      → len (numbers_below words (suc m)) ≡ len (numbers_below words m) + bit_at (get_or words (m / 64) 0) (m % 64)
  unfolding numbers_below
  len-more m =
      cond_both {A = FinSet nat_cmp} (is_bit_one words m) _ _
      (λ (s : FinSet nat_cmp). len s ≡ len (numbers_below words m) + bit_at (get_or words (m / 64) 0) (m % 64))
      (λ e. len-insert nat_cmp_total _ m ∙ cond-false _ _ _ (not_yet words m m (omega arith))
      ∙ ap (λ b. len (numbers_below words m) + b) (sym (eqb-true _ 1 e)))
      (λ e. let small = bit_at-lt (get_or words (m / 64) 0) (m % 64) in let ne = eqb-false _ 1 e in omega arith)

  -- no bits
  pub len-none : len (numbers_below words 0) ≡ 0
  unfolding numbers_below
  len-none = len-empty nat_cmp

  -- the numbers of the first bits of a word
  len-word : (k i : ℕ) → i ≤ 64
      → len (numbers_below words (64 * k + i))
      ≡ len (numbers_below words (64 * k)) + count_ones (get_or words k 0 % 2 ^ i)
  len-word k zero h =
      let e : 64 * k + 0 ≡ 64 * k = omega arith in
      let f : get_or words k 0 % 1 ≡ 0 = omega arith in
      let none : count_ones (get_or words k 0 % 1) ≡ 0 = ap count_ones f ∙ count_ones-zero in
      ap (λ m. len (numbers_below words m)) e ∙ omega arith
  len-word k (suc i) h =
      let e : 64 * k + suc i ≡ suc (64 * k + i) = omega arith in
      let f : suc i ≡ i + 1 = omega arith in
      let place = at_place k i (omega arith) in
      let earlier = len-word k i (omega arith) in
      let bit : bit_at (get_or words ((64 * k + i) / 64) 0) ((64 * k + i) % 64) ≡ bit_at (get_or words k 0) i =
      ap (λ m. bit_at (get_or words m 0) ((64 * k + i) % 64)) place.0 ∙ ap (λ m. bit_at (get_or words k 0) m) place.1 in
      let ones = ap (λ j. count_ones (get_or words k 0 % 2 ^ j)) f ∙ count_ones-more (get_or words k 0) i in
      ap (λ m. len (numbers_below words m)) e ∙ len-more (64 * k + i) ∙ omega arith

  -- one more word
  pub len-next : (k : ℕ) → get_or words k 0 < 2 ^ 64
      → len (numbers_below words (64 * (k + 1))) ≡ len (numbers_below words (64 * k)) + count_ones (get_or words k 0)
  len-next k h =
      let e : 64 * (k + 1) ≡ 64 * k + 64 = omega arith in
      let f : get_or words k 0 % 2 ^ 64 ≡ get_or words k 0 = omega arith in
      ap (λ m. len (numbers_below words m)) e ∙ len-word k 64 (omega arith)
      ∙ ap (λ w. len (numbers_below words (64 * k)) + count_ones w) f

  -- at most one number for each bit
  pub len_le : (m : ℕ) → len (numbers_below words m) ≤ m
  len_le zero = omega (arith, len-none)
  len_le (suc m) = omega (arith, len-more m, len_le m, bit_at-lt (get_or words (m / 64) 0) (m % 64))
