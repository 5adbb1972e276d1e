-- The table of values, as it was.
use Rattle.std.proofs.Common.{◌≡◌, ℕ, zero, suc, ◌<◌, Bool, List, [], ◌∷◌, length, get_or, set, refl, ap, arith, Option}

-- an entry that is written as it was
pub set_back : (values : List (Option Bool)) (x : ℕ) (a b d : Option Bool) → x < length values
    → set (set (set values x a) x b) x (get_or values x d) ≡ values
set_back [] x a b d h = absurd (omega arith)
set_back (y ∷ ys) zero a b d h = refl
set_back (y ∷ ys) (suc x) a b d h = ap (λ l. y ∷ l) (set_back ys x a b d (omega arith))
