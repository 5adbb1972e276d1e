-- What the place of an id tells.
use Rattle.std.proofs.Common.{◌≡◌, ◌≢◌, ◌+◌, ◌<◌, ◌∷◌, ◌∙◌, Bool, true, false, cond, ℕ, zero, suc, List, [], length, map, get_or, Some, refl, sym, ap, arith, zero-add}
use Rattle.std.proofs.lemmas.{Bool.false_from_ne_true, List.length-map, Slice.Eq.bytes_eq-Decides}
use Rattle.std.specs.{List.position_from, Str.bytes_eq}
use Rattle.olap_base.specs.{Instance.Instance, Naming.place_of}

-- the place of an id that stands nowhere before
pub first-at : (x : List ℕ) (ids : List (List ℕ)) (n m : ℕ) → m < length ids → get_or ids m [] ≡ x
    → ((j : ℕ) → j < m → get_or ids j [] ≢ x)
    → position_from (bytes_eq x) n ids ≡ Some (n + m)
first-at x [] n m l e none = absurd (omega arith)
first-at x (y ∷ ys) n zero l e none = grind (arith, bytes_eq-Decides)
first-at x (y ∷ ys) n (suc m) l e none =
    let f = false_from_ne_true (bytes_eq x y) (λ t. none 0 (omega arith) (sym ((bytes_eq-Decides x y).0 t))) in
    let k : (n + 1) + m ≡ n + suc m = omega arith in
    rw f (first-at x ys (n + 1) m (omega arith) e (λ j b. none (suc j) (omega arith)) ∙ ap (λ (i : ℕ). Some i) k)

-- no id stands twice
abbrev pub AreDistinct : List (List ℕ) → Type 0
AreDistinct ids = (i j : ℕ) → i < length ids → j < length ids → get_or ids i [] ≡ get_or ids j [] → i ≡ j

-- among distinct ids each is found at its place
pub place-of-id : (ids : List (List ℕ)) (m : ℕ) → AreDistinct ids → m < length ids
    → place_of (get_or ids m []) ids ≡ Some m
place-of-id ids m d l = grind (arith, first-at, zero-add)

-- what is found has the id
found-from : (x : List ℕ) (ids : List (List ℕ)) (n i : ℕ) → position_from (bytes_eq x) n ids ≡ Some i
    → (k : ℕ) × (i ≡ n + k) × (k < length ids) × (get_or ids k [] ≡ x)
found-from x [] n i e = cc e
found-from x (y ∷ ys) n i e = by (bytes_eq x y) refl e (found-from x ys (n + 1) i)
  where
    by : (b : Bool) → bytes_eq x y ≡ b → cond b (Some n) (position_from (bytes_eq x) (n + 1) ys) ≡ Some i
        → (position_from (bytes_eq x) (n + 1) ys ≡ Some i → (k : ℕ) × (i ≡ (n + 1) + k) × (k < length ys)
        × (get_or ys k [] ≡ x))
        → (k : ℕ) × (i ≡ n + k) × (k < length (y ∷ ys)) × (get_or (y ∷ ys) k [] ≡ x)
    by true t e again = let s : n ≡ i = cc in (0, omega arith, omega arith, sym ((bytes_eq-Decides x y).0 t))
    by false t e again = let r = again e in (suc r.0, omega (arith, r.1), omega (arith, r.2), r.3)

-- at the place that is found stands the id
pub id-at-place : (x : List ℕ) (ids : List (List ℕ)) (i : ℕ) → place_of x ids ≡ Some i
    → (i < length ids) × (get_or ids i [] ≡ x)
id-at-place x ids i e = grind (arith, found-from)

-- what is found lies within the list
pub place-within : (x : List ℕ) (ids : List (List ℕ)) (i : ℕ) → place_of x ids ≡ Some i → i < length ids
place-within x ids i e = (id-at-place x ids i e).0

-- what is found among members lies among them
pub member-within : (x : List ℕ) (ms : Instance) (i : ℕ) → place_of x (map (λ m. m.id) ms) ≡ Some i → i < length ms
member-within x ms i e = let h = place-within x (map (λ m. m.id) ms) i e in let n = length-map ms (λ m. m.id) in
    omega arith
