-- How an id is hashed: its bytes, seven at a time, are the coefficients of a polynomial, and the hash is its value at a
-- point that is the key, modulo 2 ^ 61 - 1. Numbers that are equal modulo 2 ^ 61 - 1 stand for each other. The last
-- coefficient has the bytes that are left over, after how many bytes there are.
--     stepped      the value after one more coefficient
--     value_after  the value after bytes
--     with_bytes   a hasher after bytes that are written at once
--     key_of       eight times the point that is the key of a text
use Rattle.std.specs.Prelude.{ℕ, ◌+◌, ◌*◌, ◌/◌, ◌%◌, ◌^◌, ◌∷◌, List, [], length, bit_or, take}
use Rattle.std.specs.Int.{w64, from_le_bytes}
use Rattle.std.specs.List.{fold}
use Rattle.sha2.specs.Sha256.{sha256}
use Rattle.olap_instance.specs.declared.hashing.IdHasher.{IdHasher}

-- the sum of a value and a coefficient, below 2 ^ 64
abbrev pub summed : ℕ → ℕ → ℕ
summed value coefficient = (value % 2 ^ 61 + value / 2 ^ 61 + coefficient) % 2 ^ 64

-- a product with eight times a point, modulo 2 ^ 61 - 1: its low 61 bits and those above them
abbrev pub multiplied : ℕ → ℕ → ℕ
multiplied sum point = (sum * point % 2 ^ 64 / 8 + sum * point / 2 ^ 64) % 2 ^ 64

-- the value after one more coefficient
abbrev pub stepped : ℕ → ℕ → ℕ → ℕ
stepped point value coefficient = multiplied (summed value coefficient) point

-- a hasher that was given nothing, at eight times this point
abbrev pub begun : ℕ → IdHasher
begun point = record { point = point; value = 0 }

-- a number with one more byte after it
abbrev pub with_byte : ℕ → ℕ → ℕ
with_byte number byte = bit_or (number * 2 ^ 8 % 2 ^ 64) byte

-- the value after these bytes, which are the last ones of a text of `count` bytes
unfoldable pub value_after : ℕ → ℕ → ℕ → List ℕ → ℕ
value_after count point value (a ∷ b ∷ c ∷ d ∷ e ∷ f ∷ g ∷ rest) =
    value_after count point (stepped point value (from_le_bytes w64 (a ∷ b ∷ c ∷ d ∷ e ∷ f ∷ g ∷ 0 ∷ []))) rest
value_after count point value rest = stepped point value (fold with_byte count rest)

-- a hasher after these bytes
abbrev pub with_bytes : IdHasher → List ℕ → IdHasher
with_bytes h bytes = record { point = h.point; value = value_after (length bytes) h.point h.value bytes }

-- eight times the point that is the key of a text: the first eight bytes of its digest, the lowest first, without the
-- lowest three bits
abbrev pub key_of : List ℕ → ℕ
key_of text = from_le_bytes w64 (take 8 (sha256 text)) / 8 * 8
