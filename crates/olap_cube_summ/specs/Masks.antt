-- Masks over the sources of a question, a bit a source, and sets of masks.
--     IsIn        a set of masks has it
--     IsBad       not exactly one of this many sources has its bit in the mask
--     all_of      the mask of all sources
--     CanBeBad    a pattern of each set can be met with the mask so that it becomes bad
use Rattle.std.specs.Prelude.{◌≡◌, ◌<◌, ℕ, ◌-◌, ◌^◌, List, [], ◌∷◌, true}
use Rattle.std.specs.FinSet as set
use Rattle.std.specs.Int.{bit_at}
use Rattle.std.specs.Int.Bits.{bit_and}
use Rattle.std.specs.List.{range_with_len}
use Rattle.olap_base.specs.Views.{ExactlyOne}
use Rattle.olap_bits.specs.Sets.{members}
use Rattle.olap_bits.specs.declared.sets.CatSet.{CatSet}

-- the set has the mask, which is one over eight sources
abbrev pub IsIn : CatSet 4 → ℕ → Type 0
IsIn masks m = (m < 256) × (set.contains (members masks) m ≡ true)

-- the k-th source has its bit in the mask
abbrev pub Has : ℕ → ℕ → Type 0
Has m k = bit_at m k ≡ 1

-- not exactly one of the first n sources has its bit in the mask
abbrev pub IsBad : ℕ → ℕ → Type 0
IsBad n m = ExactlyOne (Has m) (range_with_len 0 n) → ⊥

-- the bits of the first n sources
abbrev pub all_of : ℕ → ℕ
all_of n = 2 ^ n - 1

-- there is a pattern in each set, so that what they have in common with the mask is bad
abbrev pub CanBeBad : ℕ → List (CatSet 4) → ℕ → Type 0
CanBeBad n [] m = IsBad n m
CanBeBad n (patterns ∷ sets) m = (p : ℕ) × IsIn patterns p × CanBeBad n sets (bit_and m p)

-- one of the masks can become bad by these sets
abbrev pub OneCanBeBad : ℕ → List (CatSet 4) → CatSet 4 → Type 0
OneCanBeBad n sets masks = (m : ℕ) × IsIn masks m × CanBeBad n sets m
