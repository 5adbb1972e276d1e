-- Tuples of members as points: the two views of a tuple of categories agree for every fact table exactly if each
-- fact's tuple is reached by one source.
use Rattle.std.proofs.{Common.{◌≡◌, ℕ, ◌↔◌, List, [], ◌∷◌, true, refl}, Math.Decide.ℕ_discrete, lemmas.Bool.and_from}
use Rattle.olap_base.proofs.ListLemmas.{first_true, second_true}
use Rattle.olap_base.proofs.RollingLemmas.{rolling_agree, times_same, direct_of_one, merged_of_one}
use Rattle.olap_base.proofs.{RollingTotals.{IsRolling, By}, ViewLemmas.{members_of_is, via_is_by}}
use Rattle.olap_base.specs.{Graph.Graph, Instance.Instance, Reaching.{reaches, reaches_is}}
use Rattle.olap_cube.proofs.TupleLemmas.{tuple_reaches_is, tuple_onward, tuples_of_is, is_tuple_of, Distinct-tuples_of, tuple_once}
use Rattle.olap_cube.specs.CubeViews.{CubesAgreeExactlyIfReachedByOne, OneCubeFactsViews, tuples}
use Rattle.olap_cube.specs.Tuples.{tuple_reaches, IsTupleOf, IsBottomTuple, AreLawful, TupleReachesVia}
use mathlib.Core.List.{List-discrete}

-- tuples of members are points that roll up, as those of one instance do
pub tuples_roll : (gs : List Graph) (is : List Instance) → AreLawful gs is → IsRolling (tuples is)
tuples_roll gs is w = record {
  equal = List-discrete ℕ_discrete;
  distinct = Distinct-tuples_of is;
  once = λ c x y z k l e f. tuple_once gs is c x y z w (tuples_of_is is c y k) (tuples_of_is is c z l) e f;
  onward = tuple_onward is;
}

-- by a tuple of t that reaches y, or place by place by a member that reaches one of the target's category
through : (gs : List Graph) (is : List Instance) → AreLawful gs is → (c x y : List ℕ) → IsTupleOf is c y
    → tuple_reaches is x y ≡ true → (t : List ℕ) → TupleReachesVia is x t c
    → (z : List ℕ) × IsTupleOf is t z × (tuple_reaches is x z ≡ true) × (tuple_reaches is z y ≡ true)
through [] [] w [] [] [] m e [] v = ([], tt, refl, refl)
through [] [] w [] [] [] m e (t ∷ ts) v = absurd v
through [] [] w [] [] (y ∷ ys) m e ts v = absurd m
through [] [] w [] (x ∷ xs) ys m e ts v = absurd v
through [] [] w (c ∷ cs) xs ys m e ts v = absurd m
through [] (i ∷ is) w cs xs ys m e ts v = absurd w
through (g ∷ gs) [] w cs xs ys m e ts v = absurd w
through (g ∷ gs) (i ∷ is) w [] xs ys m e ts v = absurd m
through (g ∷ gs) (i ∷ is) w (c ∷ cs) [] ys m e ts v = absurd v
through (g ∷ gs) (i ∷ is) w (c ∷ cs) (x ∷ xs) [] m e ts v = absurd m
through (g ∷ gs) (i ∷ is) w (c ∷ cs) (x ∷ xs) (y ∷ ys) m e [] v = absurd v
through (g ∷ gs) (i ∷ is) w (c ∷ cs) (x ∷ xs) (y ∷ ys) m e (t ∷ ts) v =
    let b = (via_is_by g i w.0 c x y m.0 (first_true (reaches i x y) (tuple_reaches is xs ys) e) t).0 v.0 in
    let r = through gs is w.1 cs xs ys m.1 (second_true (reaches i x y) (tuple_reaches is xs ys) e) ts v.1 in (
      b.0 ∷ r.0,
      (members_of_is i t b.0 b.1, r.1),
      and_from (reaches i x b.0) (tuple_reaches is xs r.0) b.2 r.2,
      and_from (reaches i b.0 y) (tuple_reaches is r.0 ys) b.3 r.3,
    )

-- what reaches a tuple of the source, which reaches the target's, reaches the target by way of the source
place_by_place : (is : List Instance) (c x y t z : List ℕ) → IsTupleOf is c y → IsTupleOf is t z
    → tuple_reaches is x z ≡ true → tuple_reaches is z y ≡ true → TupleReachesVia is x t c
place_by_place [] [] [] [] [] [] m n e f = tt
place_by_place [] [] [] [] [] (z ∷ zs) m n e f = absurd n
place_by_place [] [] [] [] (t ∷ ts) zs m n e f = absurd n
place_by_place [] [] [] (y ∷ ys) ts zs m n e f = absurd m
place_by_place [] [] (x ∷ xs) ys ts zs m n e f = absurd (cc)
place_by_place [] (c ∷ cs) xs ys ts zs m n e f = absurd m
place_by_place (i ∷ is) [] xs ys ts zs m n e f = absurd m
place_by_place (i ∷ is) (c ∷ cs) [] ys ts zs m n e f = absurd (cc)
place_by_place (i ∷ is) (c ∷ cs) (x ∷ xs) [] ts zs m n e f = absurd m
place_by_place (i ∷ is) (c ∷ cs) (x ∷ xs) (y ∷ ys) [] zs m n e f = absurd n
place_by_place (i ∷ is) (c ∷ cs) (x ∷ xs) (y ∷ ys) (t ∷ ts) [] m n e f = absurd n
place_by_place (i ∷ is) (c ∷ cs) (x ∷ xs) (y ∷ ys) (t ∷ ts) (z ∷ zs) m n e f = (
  (
    z,
    n.0,
    (reaches_is i x z).0 (first_true (reaches i x z) (tuple_reaches is xs zs) e),
    (y, m.0, (reaches_is i z y).0 (first_true (reaches i z y) (tuple_reaches is zs ys) f)),
  ),
  place_by_place is cs xs ys ts zs m.1 n.1 (second_true (reaches i x z) (tuple_reaches is xs zs) e)
      (second_true (reaches i z y) (tuple_reaches is zs ys) f),
)

-- by way of a source: the same, of tuples as of points
pub tuple_via_is_by : (gs : List Graph) (is : List Instance) → AreLawful gs is → (c x y : List ℕ) → IsTupleOf is c y
    → tuple_reaches is x y ≡ true → (t : List ℕ) → TupleReachesVia is x t c ↔ By (tuples is) x t y
tuple_via_is_by gs is w c x y m e t = (
  λ v. let r = through gs is w c x y m e t v in (r.0, is_tuple_of is t r.0 r.1, r.2, r.3),
  λ b. place_by_place is c x y t b.0 m (tuples_of_is is t b.0 b.1) b.2 b.3,
)

-- the theorem, as that of points
pub cubes_agree_exactly : CubesAgreeExactlyIfReachedByOne
cubes_agree_exactly gs is c sources w =
    let r = rolling_agree (tuples is) (tuples_roll gs is w) (IsBottomTuple gs is) (λ x t. TupleReachesVia is x t c) c
    (λ x y k e. tuple_via_is_by gs is w c x y (tuples_of_is is c y k) e) sources in (
      λ h x b y m q. r.0 h x b y (is_tuple_of is c y m) ((tuple_reaches_is is x y).1 q),
      λ h. r.1 (λ x b y k e. h x b y (tuples_of_is is c y k) ((tuple_reaches_is is x y).0 e)),
    )

-- the theorem, as that of points
pub one_cube_facts_views : OneCubeFactsViews
one_cube_facts_views gs is w c x y m r sources n h =
    let e = (tuple_reaches_is is x y).1 r in let k = is_tuple_of is c y m in let roll = tuples_roll gs is w in (
      direct_of_one (tuples is) roll c x y k e,
      merged_of_one (tuples is) roll c x y k e sources n
          (times_same (λ t. TupleReachesVia is x t c) (λ t. By (tuples is) x t y) (tuple_via_is_by gs is w c x y m e)
          sources n h),
    )
