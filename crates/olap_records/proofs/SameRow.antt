-- A row compared field by field.
use Rattle.std.proofs.Common.{◌≡◌, ◌<◌, ◌∷◌, ◌∙◌, Bor, true, false, not, ℕ, suc, List, [], length, map, get_or, refl, sym, ap, arith}
use Rattle.std.proofs.lemmas.{Bool.{not-true, not-false}, List.get_or-map, Slice.Eq.bytes_eq-Decides}
use Rattle.std.specs.Str.{bytes_eq}

-- two lists of the same head and the same rest
both : {A : Type 0} (x y : A) (xs ys : List A) → x ≡ y → xs ≡ ys → x ∷ xs ≡ y ∷ ys
both x y xs ys a b = cc

-- records of the same fields are the same
pub same-rows : (xs ys : List (List ℕ)) → length xs ≡ length ys
    → ((k : ℕ) → k < length ys → get_or xs k [] ≡ get_or ys k []) → xs ≡ ys
same-rows [] [] e h = refl
same-rows [] (y ∷ ys) e h = absurd (omega arith)
same-rows (x ∷ xs) [] e h = absurd (omega arith)
same-rows (x ∷ xs) (y ∷ ys) e h =
    both x y xs ys (h 0 (omega arith)) (same-rows xs ys (omega arith) (λ k l. h (suc k) (omega arith)))

-- the fields that are borrowed
abbrev texts : List (Bor (List ℕ)) → List (List ℕ)
texts fs = map (λ f. f.now) fs

-- fields that don't differ, as the test tells, are the same
pub field-same : (row : List (List ℕ)) (fs : List (Bor (List ℕ))) (i : ℕ) (x : List ℕ) (d : Bor (List ℕ))
    → i < length fs → x ≡ get_or row i []
    → not (bytes_eq x (get_or fs i d).now) ≡ false → get_or row i [] ≡ get_or (texts fs) i []
field-same row fs i x d l e h =
    sym e ∙ (bytes_eq-Decides x (get_or fs i d).now).0 (not-false _ h) ∙ sym (get_or-map (λ f. f.now) fs i d [] l)

-- records with a field that differs, as the test tells, aren't the same
pub field-other : (row : List (List ℕ)) (fs : List (Bor (List ℕ))) (i : ℕ) (x : List ℕ) (d : Bor (List ℕ))
    → i < length fs → x ≡ get_or row i []
    → not (bytes_eq x (get_or fs i d).now) ≡ true → row ≡ texts fs → ⊥
field-other row fs i x d l e h same =
    let at : x ≡ (get_or fs i d).now =
    e ∙ ap (λ (r : List (List ℕ)). get_or r i []) same ∙ get_or-map (λ f. f.now) fs i d [] l in
    let t = (bytes_eq-Decides x (get_or fs i d).now).1 at in
    cc (not-true _ h, t)
