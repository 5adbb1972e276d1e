-- Keys of tuples: their numbers, and zeros up to this many.
use Rattle.std.proofs.Common.{◌≡◌, ℕ, zero, suc, ◌<◌, ◌≤◌, List, [], ◌∷◌, ◌++◌, length, take, refl, sym, ap, ◌∙◌, arith}
use Rattle.std.{proofs.Math.ListN.set, specs.Cmp.{nat_cmp_total, tied_itself}}
use Rattle.std.specs.{Cmp.Lexicographic.{lists_total, slice_cmp}, Ordering.{nat_cmp, ordering_then}}
use Rattle.olap_cube_views.specs.CubeTallies.{filled}

-- the numbers of a tuple, back from its key
pub take-filled : (n : ℕ) (ys : List ℕ) → length ys ≤ n → take (length ys) (filled n ys) ≡ ys
take-filled n [] h = refl
take-filled zero (y ∷ ys) h = absurd (omega arith)
take-filled (suc n) (y ∷ ys) h = ap (λ t. y ∷ t) (take-filled n ys (omega arith))

-- a key of one number more
pub filled_more : (n : ℕ) (ys : List ℕ) (y : ℕ) → length ys < n
    → set (filled n ys) (length ys) y ≡ filled n (ys ++ y ∷ [])
filled_more zero ys y h = absurd (omega arith)
filled_more (suc n) [] y h = refl
filled_more (suc n) (x ∷ ys) y h = ap (λ t. x ∷ t) (filled_more n ys y (omega arith))

-- of as many numbers, equal keys are of one tuple
pub filled_same : (n : ℕ) (ys zs : List ℕ) → length ys ≡ length zs → length ys ≤ n → filled n ys ≡ filled n zs → ys ≡ zs
filled_same n ys zs e h q = sym (take-filled n ys h) ∙ ap (take (length ys)) q ∙ ap (λ k. take k (filled n zs)) e
    ∙ take-filled n zs (omega arith)

-- keys ascend as the tuples do
pub filled_order : (n : ℕ) (ys zs : List ℕ) → length ys ≡ length zs → length ys ≤ n
    → slice_cmp nat_cmp (filled n ys) (filled n zs) ≡ slice_cmp nat_cmp ys zs
filled_order n [] [] e h = tied_itself (lists_total nat_cmp_total) (filled n [])
filled_order n [] (z ∷ zs) e h = absurd (omega arith)
filled_order n (y ∷ ys) [] e h = absurd (omega arith)
filled_order zero (y ∷ ys) (z ∷ zs) e h = absurd (omega arith)
filled_order (suc n) (y ∷ ys) (z ∷ zs) e h =
    ap (ordering_then (nat_cmp y z)) (filled_order n ys zs (omega arith) (omega arith))
