-- The texts and the numbers of the atoms of two formulas.
use Rattle.std.proofs.{Common.{◌≡◌, List, ◌++◌, ℕ, Bool, map, refl, ap, ◌∙◌, [], ◌∷◌, arith}, lemmas.Bool.eqb-true}
use Rattle.std.proofs.lemmas.List.{map-append, Elements.{filter-append, All-cons}, Kept.AllPairs-cons}
use Rattle.std.specs.{Cmp.Lexicographic.{pointwise, slice_cmp}, List.{All, AllByRecursion}}
use Rattle.std.specs.{List.Sorted.IsStrictlySortedBy, Ordering.nat_cmp, Prelude.{◌==◌, filter, AllPairs, nat_eq, true}}
use Rattle.olap_ast.specs.{Atoms.{Comparison, Equality, numbers_on, texts_on}, Constants.IsBefore}
use Rattle.olap_base.proofs.ListLemmas.{first_true, second_true}

-- the texts on a category, of two lists of atoms
pub texts_on-append : (d : ℕ) (xs ys : List Equality) → texts_on d (xs ++ ys) ≡ texts_on d xs ++ texts_on d ys
texts_on-append d xs ys =
    let on : Equality → Bool = λ a. a.category == d in
    ap (map (λ (a : Equality). a.text)) (filter-append on xs ys)
    ∙ map-append (λ (a : Equality). a.text) (filter on xs) (filter on ys)

-- and the numbers
pub numbers_on-append : (d : ℕ) (xs ys : List Comparison)
    → numbers_on d (xs ++ ys) ≡ numbers_on d xs ++ numbers_on d ys
numbers_on-append d xs ys =
    let on : Comparison → Bool = λ a. a.category == d in
    ap (map (λ (a : Comparison). a.number)) (filter-append on xs ys)
    ∙ map-append (λ (a : Comparison). a.number) (filter on xs) (filter on ys)

-- the tests of two equal texts
pub same_text : (x y : List ℕ) → pointwise nat_eq x y ≡ true → x ≡ y
same_text [] [] h = refl
same_text (x ∷ xs) (y ∷ ys) h =
    let first : x ≡ y = eqb-true x y (first_true (nat_eq x y) (pointwise nat_eq xs ys) h) in
    let rest : xs ≡ ys = same_text xs ys (second_true (nat_eq x y) (pointwise nat_eq xs ys) h) in
    cc
same_text x y h = absurd cc

-- what holds of the first and of the rest holds of all
all_from : (P : List ℕ → Type 0) (xs : List (List ℕ)) → AllByRecursion P xs → All P xs
all_from P [] h = λ k d below. absurd (omega arith)
all_from P (x ∷ xs) h = All-cons P x xs h.0 (all_from P xs h.1)

-- each text is before all later ones
pub in_order : (texts : List (List ℕ)) → IsStrictlySortedBy (slice_cmp nat_cmp) texts → AllPairs IsBefore texts
unfolding IsStrictlySortedBy
in_order [] h = λ i j d below inside. absurd (omega arith)
in_order (x ∷ xs) h = AllPairs-cons IsBefore x xs (all_from (IsBefore x) xs h.0) (in_order xs h.1)
