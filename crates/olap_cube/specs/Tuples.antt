-- Tuples of members, one of each dimension, and how they reach one another: place by place. Lists of different lengths
-- are never related, and have no tuples.
--     AllZip3            what stands at each place of three lists is related
--     TupleReaches       each member reaches its counterpart
--     IsTupleOf          members of these categories
--     IsBottomTuple      members of bottom categories
--     TupleReachesVia    each member reaches one of its source's category that reaches one of its target's
--     tuples_of          the tuples of members of a tuple of categories, in lexicographic file order
use Rattle.std.specs.Prelude.{ℕ, List, [], ◌∷◌, map, flat_map, Bool, true, false, ◌&&◌}
use Rattle.std.specs.List.{AllZip}
use Rattle.olap_base.specs.Graph.{Graph, IsBottom}
use Rattle.olap_base.specs.Instance.{Instance, IsLawful, IsMember, IsMemberOf, Reaches, ReachesVia, category_of}
use Rattle.olap_base.specs.Reaching.{reaches}
use Rattle.olap_base.specs.Views.{members_of}

-- what stands at each place of three lists is related, and the lists are equally long
abbrev pub AllZip3 : {A B C : Type 0} → (A → B → C → Type 0) → List A → List B → List C → Type 0
AllZip3 R [] [] [] = Unit {0}
AllZip3 R (x ∷ xs) (y ∷ ys) (z ∷ zs) = R x y z × AllZip3 R xs ys zs
AllZip3 R _ _ _ = ⊥

-- each instance is lawful for its graph
abbrev pub AreLawful : List Graph → List Instance → Type 0
AreLawful gs is = AllZip IsLawful gs is

-- each member reaches its counterpart
abbrev pub TupleReaches : List Instance → List ℕ → List ℕ → Type 0
TupleReaches is xs ys = AllZip3 Reaches is xs ys

-- the same as a test
abbrev pub tuple_reaches : List Instance → List ℕ → List ℕ → Bool
tuple_reaches [] [] [] = true
tuple_reaches (i ∷ is) (x ∷ xs) (y ∷ ys) = reaches i x y && tuple_reaches is xs ys
tuple_reaches _ _ _ = false

-- each is a member of its category
abbrev pub IsTupleOf : List Instance → List ℕ → List ℕ → Type 0
IsTupleOf is c y = AllZip3 IsMemberOf is c y

-- each is a member of a bottom category
abbrev pub IsBottomTuple : List Graph → List Instance → List ℕ → Type 0
IsBottomTuple gs is xs = AllZip3 (λ g i x. IsMember i x × IsBottom g (category_of i x)) gs is xs

-- each member reaches one of its source's category that reaches one of its target's
abbrev pub TupleReachesVia : List Instance → List ℕ → List ℕ → List ℕ → Type 0
TupleReachesVia [] [] [] [] = Unit {0}
TupleReachesVia (i ∷ is) (x ∷ xs) (t ∷ ts) (c ∷ cs) = ReachesVia i x t c × TupleReachesVia is xs ts cs
TupleReachesVia _ _ _ _ = ⊥

-- the tuples of members of these categories, in lexicographic file order
abbrev pub tuples_of : List Instance → List ℕ → List (List ℕ)
tuples_of [] [] = [] ∷ []
tuples_of (i ∷ is) (c ∷ cs) = flat_map (λ y. map (λ ys. y ∷ ys) (tuples_of is cs)) (members_of i c)
tuples_of _ _ = []
