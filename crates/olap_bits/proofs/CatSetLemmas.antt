-- A number is in a set exactly if its bit is 1.
use Rattle.std.proofs.Common.{◌≡◌, ◌≢◌, ℕ, zero, suc, ◌+◌, ◌*◌, ◌/◌, ◌%◌, ◌^◌, ◌<◌, ◌≤◌, false, not, ◌&&◌, ◌||◌, inl, inr, eqb, List, length, get_or, replicate, refl, ap, sym, ◌∙◌, subst, arith}
use Rattle.std.proofs.lemmas.Bool.{cases_eq, cases_lt, cond_both, eq-eqb, ne_eqb, or_from, or_left}
use Rattle.std.proofs.lemmas.{List.{get_or_past, length-replicate, get_or-replicate}, Nat.Bits.shr_and_one}
use Rattle.std.specs.Cmp.{nat_cmp_total, unsigned_tied}
use Rattle.std.specs.FinSet.{FinSet, empty, contains, insert, remove, contains-empty, contains-insert, contains-remove, same_set, nat_cmp-IsAntisymmetric}
use Rattle.std.specs.{Ordering.nat_cmp, Prelude.bit_and}
use Rattle.olap_bits.{proofs.BitLemmas.{is_one, is_one-zero}, specs.CatSet.{is_bit_one, numbers_below, numbers_of}}

-- what is in a set after a number is put in
pub in_insert : (s : FinSet nat_cmp) (k q : ℕ) → contains (insert s k) q ≡ (eqb q k || contains s q)
in_insert s k q = contains-insert nat_cmp_total s k q ∙ ap (λ b. b || contains s q) (unsigned_tied q k)

-- what is in a set after a number is taken out
pub in_remove : (s : FinSet nat_cmp) (k q : ℕ) → contains (remove s k) q ≡ (not (eqb q k) && contains s q)
in_remove s k q = contains-remove nat_cmp_total s k q ∙ ap (λ b. not b && contains s q) (unsigned_tied q k)

module _ (words : List ℕ) where
  -- no number from k on is among those below k
  pub not_yet : (k q : ℕ) → k ≤ q → contains (numbers_below words k) q ≡ false
  unfolding numbers_below
  not_yet zero q h = contains-empty nat_cmp q
  not_yet (suc k) q h =
      cond_both {A = FinSet nat_cmp} (is_bit_one words k) _ _ (λ (s : FinSet nat_cmp). contains s q ≡ false)
      (λ _. in_insert _ k q ∙ or_from _ _ (ne_eqb q k (λ e. omega arith)) (not_yet k q (omega arith)))
      (λ _. not_yet k q (omega arith))

  -- the number k comes last
  newest : (k : ℕ) → contains (numbers_below words (suc k)) k ≡ is_bit_one words k
  unfolding numbers_below
  newest k =
      cond_both {A = FinSet nat_cmp} (is_bit_one words k) _ _
      (λ (s : FinSet nat_cmp). contains s k ≡ is_bit_one words k)
      (λ e. in_insert _ k k ∙ or_left _ _ (eq-eqb k k refl) ∙ sym e)
      (λ e. not_yet k k (omega arith) ∙ sym e)

  -- and no other number comes with it
  older : (k q : ℕ) → q ≢ k → contains (numbers_below words (suc k)) q ≡ contains (numbers_below words k) q
  unfolding numbers_below
  older k q n =
      cond_both {A = FinSet nat_cmp} (is_bit_one words k) _ _
      (λ (s : FinSet nat_cmp). contains s q ≡ contains (numbers_below words k) q)
      (λ _. in_insert _ k q ∙ ap (λ b. b || contains (numbers_below words k) q) (ne_eqb q k n))
      (λ _. refl)

  -- a number below k is among those below k exactly if its bit is 1
  seen : (k q : ℕ) → q < k → contains (numbers_below words k) q ≡ is_bit_one words q
  seen zero q h = absurd (omega arith)
  seen (suc k) q h = elim (cases_eq q k) [
    | inl e ↦ subst (λ x. contains (numbers_below words (suc k)) x ≡ is_bit_one words x) (sym e) (newest k)
    | inr n ↦ older k q n ∙ seen k q (omega arith)
  ]

  -- past the words there are no bits
  pub past : (q : ℕ) → 64 * length words ≤ q → is_bit_one words q ≡ false
  past q h = ap (λ w. is_one w (q % 64)) (get_or_past words (q / 64) 0 (omega arith)) ∙ is_one-zero (q % 64)

  -- a number is in the set exactly if its bit is 1
  pub contains-numbers_of : (q : ℕ) → contains (numbers_of words) q ≡ is_bit_one words q
  contains-numbers_of q = elim (cases_lt q (64 * length words)) [
    | inl h ↦ seen _ q h
    | inr h ↦ not_yet _ q h ∙ sym (past q h)
  ]

  -- a set with a number exactly if the bit is 1 is the words' set
  pub same_numbers : (s : FinSet nat_cmp) → ((q : ℕ) → is_bit_one words q ≡ contains s q) → numbers_of words ≡ s
  same_numbers s f = same_set nat_cmp_total nat_cmp-IsAntisymmetric _ _ (λ q. contains-numbers_of q ∙ f q)

  -- words that are 0 have no numbers
  pub no_numbers : ((j : ℕ) → get_or words j 0 ≡ 0) → numbers_of words ≡ empty
  no_numbers f =
      same_numbers empty
      (λ q. ap (λ w. is_one w (q % 64)) (f (q / 64)) ∙ is_one-zero (q % 64) ∙ sym (contains-empty nat_cmp q))

-- a list of zeros has a 0 at each place
zeros : (n j : ℕ) → ◌≡◌ {A = ℕ} (get_or (replicate n 0) j 0) 0
zeros n j = elim (cases_lt j n) [
  | inl h ↦ get_or-replicate n j 0 0 h
  | inr h ↦ get_or_past (replicate n 0) j 0 (simp length-replicate h)
]

-- zeros have no numbers
pub numbers_of-zeros : (n : ℕ) → numbers_of (replicate n 0) ≡ empty
numbers_of-zeros n = no_numbers (replicate n 0) (zeros n)

module _ (words : List ℕ) where
  -- the test of a number's bit
  pub has_one : (n m : ℕ) → m ≡ n
      → eqb (bit_and (get_or words (m / 64) 0 / 2 ^ (n % 64)) 1) 1 ≡ contains (numbers_of words) n
  has_one n m e =
      ap (λ j. eqb (bit_and (get_or words (j / 64) 0 / 2 ^ (n % 64)) 1) 1) e
      ∙ ap (λ b. eqb b 1) (shr_and_one (get_or words (n / 64) 0) (n % 64)) ∙ sym (contains-numbers_of words n)

  -- a number past the words isn't in the set
  pub has_none : (n : ℕ) → length words ≤ n / 64 → false ≡ contains (numbers_of words) n
  has_none n h = sym (contains-numbers_of words n ∙ past words n (omega arith))

  -- words of which the first k are 0, and that are no more, have no numbers
  pub all_zeros : (k : ℕ) → length words ≤ k → ((j : ℕ) → j < k → get_or words j 0 ≡ 0) → numbers_of words ≡ empty
  all_zeros k h f = no_numbers words (λ j. elim (cases_lt j k) [
    | inl l ↦ f j l
    | inr l ↦ get_or_past words j 0 (omega arith)
  ])

-- where the bit at the place t of the word k stands
pub at_place : (k t : ℕ) → t < 64 → ((64 * k + t) / 64 ≡ k) × ((64 * k + t) % 64 ≡ t)
at_place k t h = (omega arith, omega arith)
