-- A category that comes twice, gone over from the left with those before it.
use Rattle.std.proofs.Common.{◌≡◌, ◌||◌, ◌++◌, ◌∷◌, ◌∙◌, Bool, true, false, ℕ, List, [], None, Option, Some, arith, cond, map, refl, sym, ap, subst}
use Rattle.std.{proofs.lemmas.Bool.{eqb-true, or_parts, or_from}, proofs.lemmas.List.map-append, specs.List.list_any}
use Rattle.std.specs.{Option.option_map, Prelude.◌==◌}
use Rattle.olap_base.{proofs.GeneralLemmas.{or_true, eqb_same}, specs.declared.ids.CatId.CatId}
use Rattle.olap_schema_text.specs.Resolving.{is_repeated}

-- the category is one of these
abbrev pub stands_in : List ℕ → ℕ → Bool
stands_in cs c = list_any (λ d. d == c) cs

-- two categories differ either way
unlike_back : (m n : ℕ) → (m == n) ≡ false → (n == m) ≡ false
unlike_back m n e = grind arith

-- a category among others stands there
stands_at : (n : ℕ) (xs ys : List ℕ) → stands_in (xs ++ n ∷ ys) n ≡ true
stands_at n [] ys = rw (eqb_same n) refl
stands_at n (x ∷ xs) ys = ap (λ b. (x == n) || b) (stands_at n xs ys) ∙ or_true (x == n)

-- one that doesn't still doesn't with another
stands_push : (m n : ℕ) (xs : List ℕ) → stands_in xs m ≡ false → (n == m) ≡ false
    → stands_in (xs ++ n ∷ []) m ≡ false
stands_push m n [] h e = or_from (n == m) false e refl
stands_push m n (x ∷ xs) h e =
    let parts = or_parts (x == m) (stands_in xs m) h in
    or_from (x == m) (stands_in (xs ++ n ∷ []) m) parts.0 (stands_push m n xs parts.1 e)

-- one more before it
again_step : (m n : ℕ) (ms ns : List ℕ) (b : Bool) → (m == n) ≡ b → (b || stands_in ms n) ≡ true
    → (stands_in ms n ≡ true → is_repeated (ms ++ n ∷ ns) ≡ true) → is_repeated (m ∷ (ms ++ n ∷ ns)) ≡ true
unfolding is_repeated
again_step m n ms ns true e h later =
    let same : m ≡ n = eqb-true m n e in
    let t : stands_in (ms ++ n ∷ ns) m ≡ true
    = subst (λ x. stands_in (ms ++ n ∷ ns) x ≡ true) (sym same) (stands_at n ms ns) in
    rw t refl
again_step m n ms ns false e h later = rw (later h) (or_true (stands_in (ms ++ n ∷ ns) m))

-- a category that stood before comes twice
again : (n : ℕ) (before ns : List ℕ) → stands_in before n ≡ true
    → is_repeated (before ++ n ∷ ns) ≡ true
again n [] ns h = absurd (cc)
again n (m ∷ ms) ns h = again_step m n ms ns (m == n) refl h (again n ms ns)

-- one that didn't comes once
once : (n : ℕ) (before : List ℕ) → is_repeated before ≡ false → stands_in before n ≡ false
    → is_repeated (before ++ n ∷ []) ≡ false
unfolding is_repeated
once n [] h e = refl
once n (m ∷ ms) h e =
    let parts = or_parts (stands_in ms m) (is_repeated ms) h in
    let apart = or_parts (m == n) (stands_in ms n) e in
    let first : stands_in (ms ++ n ∷ []) m ≡ false
    = stands_push m n ms parts.0 (unlike_back m n apart.0) in
    let others : is_repeated (ms ++ n ∷ []) ≡ false = once n ms parts.1 apart.1 in
    rw (first, others) refl

-- one alone comes once
one_once : (n : ℕ) → is_repeated (n ∷ []) ≡ false
unfolding is_repeated
one_once n = refl

-- ---- the same, in the words of the code

-- the numbers of categories
abbrev pub numbers : List CatId → List ℕ
numbers cs = map (λ c. c.0) cs

-- a category is one of these by its number
pub among_is : (c : ℕ) (cs : List CatId) → list_any (λ d. d.0 == c) cs ≡ stands_in (numbers cs) c
among_is c [] = refl
among_is c (d ∷ cs) = ap (λ b. (d.0 == c) || b) (among_is c cs)

-- what the categories are, unless one comes twice
abbrev pub unless_repeated : ℕ → List ℕ → Option (List ℕ)
unless_repeated root cs = cond (is_repeated (root ∷ cs)) None (Some cs)

-- before the first none comes twice
pub first_once : (root : ℕ) (found : List CatId) → found ≡ [] → is_repeated (root ∷ numbers found) ≡ false
first_once root found e = rw e (one_once root)

-- one that stood before comes twice, whatever follows
pub twice : (root c : ℕ) (found : List CatId) (o : Option (List ℕ)) (cs : List ℕ)
    → stands_in (root ∷ numbers found) c ≡ true → option_map (λ ds. numbers found ++ c ∷ ds) o ≡ Some cs
    → None ≡ unless_repeated root cs
twice root c found None cs h e = absurd (cc)
twice root c found (Some ds) cs h e =
    let s : numbers found ++ c ∷ ds ≡ cs = cc in
    let t : is_repeated (root ∷ (numbers found ++ c ∷ ds)) ≡ true = again c (root ∷ numbers found) ds h in
    subst (λ xs. None ≡ unless_repeated root xs) s (rw t refl)

-- one that didn't is kept
pub kept_once : (root : ℕ) (c : CatId) (found more : List CatId) → is_repeated (root ∷ numbers found) ≡ false
    → stands_in (root ∷ numbers found) c.0 ≡ false → more ≡ found ++ c ∷ []
    → is_repeated (root ∷ numbers more) ≡ false
kept_once root c found more k h e =
    ap (λ cs. is_repeated (root ∷ numbers cs)) e
    ∙ ap (λ ds. is_repeated (root ∷ ds)) (map-append (λ d. d.0) found (c ∷ []))
    ∙ once c.0 (root ∷ numbers found) k h

-- where none does, these are all
pub all_once : (root : ℕ) (found : List CatId) (cs : List ℕ) → is_repeated (root ∷ numbers found) ≡ false
    → Some (numbers found) ≡ Some cs → Some (numbers found) ≡ unless_repeated root cs
all_once root found cs k e =
    let s : numbers found ≡ cs = cc in
    subst (λ xs. Some (numbers found) ≡ unless_repeated root xs) s (rw k refl)
