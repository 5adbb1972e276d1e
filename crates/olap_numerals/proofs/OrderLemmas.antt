-- The order of numbers, as std's sort has it.
use Rattle.std.proofs.Common.{◌≡◌, true, ℤ, List, [], ◌∷◌, subst, arith, ◌<ℤ◌, int_cmp, int_eq, is_eq, Ordering, Less, Equal, Greater}
use Rattle.std.{proofs.lemmas.List.Elements.All-cons, proofs.lemmas.List.Kept.AllPairs-cons, specs.Cmp.int_ranks}
use Rattle.std.specs.{List.{All, AllByRecursion}, List.Sorted.IsStrictlySortedBy, Ordering.MatchOrdering}
use Rattle.std.specs.Prelude.{AllPairs}

-- less by the comparison is less
less_is : (x y : ℤ) → int_cmp x y ≡ Less → x <ℤ y
less_is x y e = subst (λ r. MatchOrdering r (x <ℤ y) (x ≡ y) (y <ℤ x)) e (int_ranks x y)

-- equal by the test is equal
pub same_number : (x y : ℤ) → int_eq x y ≡ true → x ≡ y
same_number x y e = go (int_cmp x y) (int_ranks x y) e
  where
    go : (r : Ordering) → MatchOrdering r (x <ℤ y) (x ≡ y) (y <ℤ x) → is_eq r ≡ true → x ≡ y
    go Less m h = absurd (cc)
    go Equal m h = m
    go Greater m h = absurd (cc)

-- less than all of a list, item by item
all_from : (x : ℤ) (ys : List ℤ) → AllByRecursion (λ y. int_cmp x y ≡ Less) ys → All (λ y. x <ℤ y) ys
all_from x [] h = λ k d below. absurd (omega arith)
all_from x (y ∷ ys) h = All-cons (λ y. x <ℤ y) y ys (less_is x y h.0) (all_from x ys h.1)

-- each number is before all later ones
pub in_order : (ns : List ℤ) → IsStrictlySortedBy int_cmp ns → AllPairs ◌<ℤ◌ ns
unfolding IsStrictlySortedBy
in_order [] h = λ i j d below inside. absurd (omega arith)
in_order (x ∷ xs) h = AllPairs-cons ◌<ℤ◌ x xs (all_from x xs h.0) (in_order xs h.1)
