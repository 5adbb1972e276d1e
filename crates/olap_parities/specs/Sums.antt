-- Sums modulo 2.
--     xor          the sum of two bits
--     sum_over     how many of these variables are true, modulo 2
--     is_bit_one   whether a column's bit is 1
--     sum_below    the sum of the chosen columns among the first
--     sum_of       the sum of the columns of a row
use Rattle.std.specs.Prelude.{ℕ, zero, suc, ◌*◌, ◌/◌, ◌%◌, Bool, true, false, not, ◌&&◌, List, [], ◌∷◌, length, slice_index, nat_eq}
use Rattle.std.specs.Int.{bit_at}

-- the sum of two bits modulo 2
abbrev pub xor : Bool → Bool → Bool
xor true b = not b
xor false b = b

-- whether the number of true variables among these is odd
abbrev pub sum_over : (ℕ → Bool) → List ℕ → Bool
sum_over v [] = false
sum_over v (x ∷ xs) = xor (v x) (sum_over v xs)

-- the column's bit is 1
abbrev pub is_bit_one : List ℕ → ℕ → Bool
is_bit_one words n = nat_eq (bit_at (slice_index words (n / 64)) (n % 64)) 1

-- the sum of the chosen ones among the first n columns
unfoldable pub sum_below : (ℕ → Bool) → (ℕ → Bool) → ℕ → Bool
sum_below w is_chosen zero = false
sum_below w is_chosen (suc n) = xor (sum_below w is_chosen n) (is_chosen n && w n)

-- the sum of the columns whose bits are 1
abbrev pub sum_of : (ℕ → Bool) → List ℕ → Bool
sum_of w words = sum_below w (is_bit_one words) (64 * length words)
