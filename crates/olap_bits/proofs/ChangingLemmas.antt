-- One bit put in or taken out.
use Rattle.std.proofs.Common.{◌≡◌, ◌≢◌, ℕ, ◌*◌, ◌/◌, ◌%◌, ◌^◌, ◌<◌, Bool, true, false, cond, not, ◌&&◌, ◌||◌, inl, inr, eqb, List, length, get_or, set, refl, ap, sym, ◌∙◌, subst, arith}
use Rattle.std.proofs.lemmas.Bool.{cases_eq, cond-true, cond-false, eq-eqb, ne_eqb}
use Rattle.std.proofs.lemmas.List.{get_or-set_same, get_or-set_other}
use Rattle.std.proofs.lemmas.Nat.Bits.{bit_at_set_same, bit_at_set_other, bit_at_clear_same, bit_at_clear_other}
use Rattle.std.specs.{FinSet.{insert, remove}, Int.{bit_not, w64}, Prelude.{bit_and, bit_or}}
use Rattle.olap_bits.proofs.{BitLemmas.is_one, CatSetLemmas.{in_insert, in_remove, contains-numbers_of, same_numbers}}
use Rattle.olap_bits.specs.CatSet.{is_bit_one, numbers_of}

module _ (words : List ℕ) (n v : ℕ) (within : n / 64 < length words) where
  -- the bits of the word that is written
  here : (q : ℕ) → q / 64 ≡ n / 64 → is_bit_one (set words (n / 64) v) q ≡ is_one v (q % 64)
  here q e =
      ap (λ j. is_one (get_or (set words (n / 64) v) j 0) (q % 64)) e
      ∙ ap (λ w. is_one w (q % 64)) (get_or-set_same words (n / 64) v 0 within)

  -- the bits of the other words
  elsewhere : (q : ℕ) → q / 64 ≢ n / 64 → is_bit_one (set words (n / 64) v) q ≡ is_bit_one words q
  elsewhere q ne = ap (λ w. is_one w (q % 64)) (get_or-set_other words (n / 64) (q / 64) v 0 ne)

  -- only the bit of n has changed
  changed : (g : Bool) → is_one v (n % 64) ≡ g
      → ((i : ℕ) → i < 64 → i ≢ n % 64 → is_one v i ≡ is_one (get_or words (n / 64) 0) i)
      → (q : ℕ) → is_bit_one (set words (n / 64) v) q ≡ cond (eqb q n) g (is_bit_one words q)
  changed g same others q = elim (cases_eq q n) [
    | inl e ↦ subst (λ x. is_bit_one (set words (n / 64) v) x ≡ cond (eqb x n) g (is_bit_one words x)) (sym e)
        (here n refl ∙ same ∙ sym (cond-true (eqb n n) _ _ (eq-eqb n n refl)))
    | inr ne ↦ apart ne ∙ sym (cond-false (eqb q n) _ _ (ne_eqb q n ne))
  ]
    where
      apart : q ≢ n → is_bit_one (set words (n / 64) v) q ≡ is_bit_one words q
      apart ne = elim (cases_eq (q / 64) (n / 64)) [
        | inl e ↦
            let other : q % 64 ≢ n % 64 = λ d. ne (omega arith) in
            here q e ∙ others (q % 64) (omega arith) other ∙ ap (λ j. is_one (get_or words j 0) (q % 64)) (sym e)
        | inr d ↦ elsewhere q d
      ]

-- put in: true where the number is, else as before
cond-true_or : (t b : Bool) → cond t true b ≡ (t || b)
cond-true_or true b = refl
cond-true_or false b = refl

-- taken out: false where the number is, else as before
cond-false_and : (t b : Bool) → cond t false b ≡ (not t && b)
cond-false_and true b = refl
cond-false_and false b = refl

module _ (words : List ℕ) (n : ℕ) (within : n / 64 < length words) where
  below : n % 64 < 64
  below = omega arith

  -- a bit set puts its number in
  pub with_one : numbers_of (set words (n / 64) (bit_or (get_or words (n / 64) 0) (1 * 2 ^ (n % 64) % 2 ^ 64)))
      ≡ insert (numbers_of words) n
  with_one =
      same_numbers _ _
      (λ q. changed words n _ within true (ap (λ b. eqb b 1) (bit_at_set_same w64 word (n % 64) below))
      (λ i h ne. ap (λ b. eqb b 1) (bit_at_set_other w64 word (n % 64) below i ne)) q
      ∙ cond-true_or (eqb q n) _ ∙ ap (λ b. eqb q n || b) (sym (contains-numbers_of words q))
      ∙ sym (in_insert (numbers_of words) n q))
    where
      word : ℕ
      word = get_or words (n / 64) 0

  -- a bit cleared takes its number out
  pub without_one : (let mask = bit_not w64 (1 * 2 ^ (n % 64) % 2 ^ 64) in
      numbers_of (set words (n / 64) (bit_and (get_or words (n / 64) 0) mask)))
      ≡ remove (numbers_of words) n
  without_one =
      same_numbers _ _
      (λ q. changed words n _ within false (ap (λ b. eqb b 1) (bit_at_clear_same w64 word (n % 64) below))
      (λ i h ne. ap (λ b. eqb b 1) (bit_at_clear_other w64 word (n % 64) below i h ne)) q
      ∙ cond-false_and (eqb q n) _ ∙ ap (λ b. not (eqb q n) && b) (sym (contains-numbers_of words q))
      ∙ sym (in_remove (numbers_of words) n q))
    where
      word : ℕ
      word = get_or words (n / 64) 0
