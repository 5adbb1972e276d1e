-- What stands for the items of a list.
use Rattle.std.proofs.Common.{◌≡◌, ℕ, ◌+◌, ◌<◌, List, ◌∷◌, [], ◌++◌, length, get_or, map, drop, take, sym, ap, ◌∙◌, arith}
use Rattle.std.proofs.lemmas.List.{drop_more, get_or-map, length-map, map-append, take_more}

-- the images from the k-th on: that of the k-th, and then the others
pub mapped_from : {X Y : Type 0} (f : X → Y) (xs : List X) (k : ℕ) (y : Y) (d : X) → k < length xs
    → y ≡ f (get_or xs k d) → drop k (map f xs) ≡ y ∷ drop (k + 1) (map f xs)
mapped_from {X} {Y} f xs k y d h e =
    let n = length-map xs f in
    drop_more (map f xs) k y (omega arith)
    ∙ ap (λ (z : Y). z ∷ drop (k + 1) (map f xs)) (get_or-map f xs k d y h ∙ sym e)

-- what stands for one item more: where it is the first items of ys, now one more of them
pub mapped_more : {X Y : Type 0} (f : X → Y) (old new : List X) (x : X) (ys : List Y) (k : ℕ) (d : Y) → k < length ys
    → new ≡ old ++ x ∷ [] → map f old ≡ take k ys → f x ≡ get_or ys k d → map f new ≡ take (k + 1) ys
mapped_more {X} {Y} f old new x ys k d h e o p =
    ap (map f) e ∙ map-append f old (x ∷ []) ∙ ap (λ (t : List Y). t ++ f x ∷ []) o
    ∙ ap (λ (y : Y). take k ys ++ y ∷ []) p ∙ sym (take_more ys k d h)
