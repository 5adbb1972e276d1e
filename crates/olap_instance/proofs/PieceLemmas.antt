-- Pieces of a field of parents, and the stamps of the members that they name.
use Rattle.std.proofs.Common.{rules, arith, ◌≡◌, ◌++◌, ◌∷◌, ◌∙◌, ◌||◌, ◌==◌, inl, inr, Bool, true, ℕ, List, [], map, get_or, Some, refl, sym, ap}
use Rattle.std.{proofs.lemmas.Bool.Decides.eqb_tells, proofs.lemmas.Slice.Eq.bytes_eq-Decides, specs.List.list_any}
use Rattle.std.specs.Str.{bytes_eq}
use Rattle.olap_base.{proofs.ListLemmas.same_truth, specs.Naming.place_of}
use Rattle.olap_instance.{proofs.PlaceFacts.id-at-place, specs.InstanceText.parent_read}

-- pieces are equal exactly if they name one member
pub same-piece : (ids : List (List ℕ)) (p q : List ℕ) (m n : ℕ) → place_of p ids ≡ Some m → place_of q ids ≡ Some n
    → bytes_eq p q ≡ (m == n)
same-piece ids p q m n em en = same_truth (bytes_eq p q) (m == n) there back
  where
    same : (n : ℕ) → (n == n) ≡ true
    same n = elim (eqb_tells n n) [ inl t ↦ t.0 | inr f ↦ absurd (f.1 refl) ]

    there : bytes_eq p q ≡ true → (m == n) ≡ true
    there t =
        let e : p ≡ q = (bytes_eq-Decides p q).0 t in
        let s : Some m ≡ Some n = sym em ∙ ap (λ (x : List ℕ). place_of x ids) e ∙ en in
        let f : m ≡ n = cc in
        rw f (same n)

    back : (m == n) ≡ true → bytes_eq p q ≡ true
    back t =
        let e : m ≡ n = elim (eqb_tells m n) [ inl t ↦ t.1 | inr f ↦ absurd (cc (f.0, t)) ] in
        let a = (id-at-place p ids m em).1 in
        let b = (id-at-place q ids n en).1 in
        (bytes_eq-Decides p q).1 (sym a ∙ ap (λ (i : ℕ). get_or ids i []) e ∙ b)

-- either of two, under other names
or-same : (a b c d : Bool) → a ≡ b → c ≡ d → (a || c) ≡ (b || d)
or-same a b c d e h = rw (e, h) refl

-- a piece is equal to an earlier one exactly if its member was found before
pub any-same : (ids : List (List ℕ)) (p : List ℕ) (m : ℕ) (before : List (List ℕ)) (found : List ℕ)
    → place_of p ids ≡ Some m
    → map (λ q. place_of q ids) before ≡ map Some found → list_any (bytes_eq p) before ≡ list_any (λ n. m == n) found
any-same ids p m [] [] e h = refl
any-same ids p m [] (n ∷ found) e h = cc
any-same ids p m (q ∷ before) [] e h = cc
any-same ids p m (q ∷ before) (n ∷ found) e h =
    let one : place_of q ids ≡ Some n = cc in
    let rest : map (λ q. place_of q ids) before ≡ map Some found = cc in
    or-same (bytes_eq p q) (m == n) (list_any (bytes_eq p) before) (list_any (λ n. m == n) found)
    (same-piece ids p q m n e one) (any-same ids p m before found e rest)

-- any of a list with one item more
pub any-push : {X : Type 0} (f : X → Bool) (xs : List X) (x : X) → list_any f (xs ++ x ∷ []) ≡ (list_any f xs || f x)
any-push f [] x = search rules
any-push f (y ∷ ys) x = grind (arith, any-push f ys x)

-- the places of pieces, where each has one
pub places-read : (ids ps : List (List ℕ)) (found : List ℕ) → map (λ p. place_of p ids) ps ≡ map Some found
    → found ≡ map (parent_read ids) ps
places-read ids [] [] h = refl
places-read ids [] (n ∷ found) h = cc
places-read ids (p ∷ ps) [] h = cc
places-read ids (p ∷ ps) (n ∷ found) h =
    let one : place_of p ids ≡ Some n = cc in
    let rest : map (λ q. place_of q ids) ps ≡ map Some found = cc in
    rw one (ap (λ (t : List ℕ). n ∷ t) (places-read ids ps found rest))
