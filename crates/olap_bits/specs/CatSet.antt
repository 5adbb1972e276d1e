-- Sets of category numbers, over plain words.
--     IsOfWidth    how many words a set may have
--     is_bit_one   whether a number's bit is 1
--     numbers_of   the numbers whose bits are 1
--     IsLeast      what `first` gives
use Rattle.std.specs.Prelude.{◌≡◌, ℕ, zero, suc, ◌*◌, ◌/◌, ◌%◌, ◌≤◌, Bool, true, List, length, slice_index, if◌then◌else◌, nat_eq}
use Rattle.std.specs.FinSet as set
use Rattle.std.specs.Int.{bit_at}
use Rattle.std.specs.Ordering.{nat_cmp}

-- from 1 word to 16
abbrev pub IsOfWidth : ℕ → Type 0
IsOfWidth width = (1 ≤ width) × (width ≤ 16)

-- the number's bit is 1
abbrev pub is_bit_one : List ℕ → ℕ → Bool
is_bit_one words n = nat_eq (bit_at (slice_index words (n / 64)) (n % 64)) 1

-- the numbers below this one whose bits are 1
unfoldable pub numbers_below : List ℕ → ℕ → set.FinSet nat_cmp
numbers_below words zero = set.empty
numbers_below words (suc n) = if is_bit_one words n then set.insert (numbers_below words n) n else numbers_below words n

-- the numbers whose bits are 1
abbrev pub numbers_of : List ℕ → set.FinSet nat_cmp
numbers_of words = numbers_below words (64 * length words)

-- the number is in the set, and no smaller one is
pub record IsLeast (s : set.FinSet nat_cmp) (n : ℕ) : Type 0 where
  pub is_one : set.contains s n ≡ true
  pub least : (m : ℕ) → set.contains s m ≡ true → n ≤ m
