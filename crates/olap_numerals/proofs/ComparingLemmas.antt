-- What the tests of comparisons say.
--     of_no_number    of a text that spells none
use Rattle.std.proofs.Common.{◌≡◌, ◌↔◌, ℤ, List, ℕ, Bool, true, false, Some, refl, ap, arith, ◌<ℤ◌, ◌≤ℤ◌}
use Rattle.std.{proofs.lemmas.Bool.Decides.Decides-and, proofs.lemmas.Int.ints, specs.Option.option_map_or}
use Rattle.std.specs.Prelude.{int_lt, not}
use Rattle.olap_numerals.specs.{Comparing.{Op, compares, is_numbered}, Numerals.number_of, Values.is_within}

-- the first number is less exactly if the test says so
pub lt_is : (a b : ℤ) → (int_lt a b ≡ true) ↔ (a <ℤ b)
lt_is a b = go (int_lt a b) refl
  where
    go : (x : Bool) → int_lt a b ≡ x → (x ≡ true) ↔ (a <ℤ b)
    go true e = (λ t. omega (arith, ints), λ l. refl)
    go false e = (λ t. absurd (let z : false ≡ true = t in cc), λ l. absurd (omega (arith, ints)))

-- it is at most the other exactly if the test says that the other isn't less
at_most_is : (a b : ℤ) → (not (int_lt b a) ≡ true) ↔ (a ≤ℤ b)
at_most_is a b = go (int_lt b a) refl
  where
    go : (x : Bool) → int_lt b a ≡ x → (not x ≡ true) ↔ (a ≤ℤ b)
    go true e = (λ t. absurd (let z : false ≡ true = t in cc), λ l. absurd (omega (arith, ints)))
    go false e = (λ t. omega (arith, ints), λ l. refl)

-- a number lies within bounds exactly if the test says so
pub within_is : (from to z : ℤ) → (is_within from to z ≡ true) ↔ ((from ≤ℤ z) × (z ≤ℤ to))
within_is from to z =
    Decides-and (not (int_lt z from)) (not (int_lt to z)) (at_most_is from z) (at_most_is z to)

-- a text that spells a number is compared as the number is
pub of_number : (text : List ℕ) (op : Op) (n a : ℤ) → number_of text ≡ Some a → is_numbered text op n ≡ compares op a n
of_number text op n a e = ap (λ o. option_map_or (λ b. compares op b n) o false) e
