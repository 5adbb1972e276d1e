-- Texts with a byte order mark, and without.
use Rattle.std.proofs.Common.{◌≡◌, ◌<◌, ◌≤◌, ◌++◌, ◌∷◌, ℕ, true, false, List, [], length, drop, get_or, inl, inr, refl, arith}
use Rattle.std.proofs.lemmas.Bool.{cases_Bool}
use Rattle.csv.specs.Reading.{is_bom, strip_bom}

-- a text of less than three bytes has none
pub strip-short : (xs : List ℕ) → length xs < 3 → xs ≡ strip_bom xs
unfolding strip_bom
strip-short [] l = refl
strip-short (a ∷ []) l = refl
strip-short (a ∷ b ∷ []) l = refl
strip-short (a ∷ b ∷ c ∷ xs) l = absurd (omega arith)

-- a text that begins with a byte order mark is read without its first three bytes
pub strip-marked : (xs : List ℕ) → 3 ≤ length xs → is_bom (get_or xs 0 0) (get_or xs 1 0) (get_or xs 2 0) ≡ true
    → drop 3 xs ≡ strip_bom xs
unfolding strip_bom
strip-marked [] l e = absurd (omega arith)
strip-marked (a ∷ []) l e = absurd (omega arith)
strip-marked (a ∷ b ∷ []) l e = absurd (omega arith)
strip-marked (a ∷ b ∷ c ∷ xs) l e = rw e refl

-- a text of three bytes or more without a mark is read as it is
pub strip-plain : (xs : List ℕ) → 3 ≤ length xs → is_bom (get_or xs 0 0) (get_or xs 1 0) (get_or xs 2 0) ≡ false
    → xs ≡ strip_bom xs
unfolding strip_bom
strip-plain [] l e = absurd (omega arith)
strip-plain (a ∷ []) l e = absurd (omega arith)
strip-plain (a ∷ b ∷ []) l e = absurd (omega arith)
strip-plain (a ∷ b ∷ c ∷ xs) l e = rw e refl

-- what comes after three bytes changes nothing of it
pub strip-more : (xs ys : List ℕ) → 3 ≤ length xs → strip_bom (xs ++ ys) ≡ strip_bom xs ++ ys
unfolding strip_bom
strip-more [] ys l = absurd (omega arith)
strip-more (a ∷ []) ys l = absurd (omega arith)
strip-more (a ∷ b ∷ []) ys l = absurd (omega arith)
strip-more (a ∷ b ∷ c ∷ xs) ys l = elim (cases_Bool (is_bom a b c)) [
  | inl e ↦ rw e refl
  | inr e ↦ rw e refl
]
