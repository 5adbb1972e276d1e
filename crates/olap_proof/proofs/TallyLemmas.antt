-- How many numbers pass a test.
use Rattle.std.proofs.Common.{ℕ, suc, List, [], ◌∷◌, Bool, cond}

-- how many numbers pass
abbrev pub tally : (ℕ → Bool) → List ℕ → ℕ
tally p [] = 0
tally p (x ∷ xs) = cond (p x) (suc (tally p xs)) (tally p xs)
