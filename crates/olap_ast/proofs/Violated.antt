-- Whether a violation is one can be decided, and the numbers of its rank are bounded.
use Rattle.std.proofs.Common.{◌≡◌, ℕ, zero, suc, ◌+◌, ◌<◌, List, [], ◌∷◌, length, refl, sym, subst, inl, inr, arith}
use Rattle.std.specs.Prelude.{◌⊎◌, Option, Some, None, Contains, slice_get, slice_index}
use Rattle.olap_base.proofs.DecisionLemmas.{dec_not}
use Rattle.olap_base.specs.Deciding.{dec_and, dec_iff, decide_reaches, decide_contains, below_is_member, contains_cases}
use Rattle.olap_base.specs.Instance.{Instance, IsMember, IsMemberOf, IsBelow, IsFarBelow, Reaches, category_of, parents_of}
use Rattle.olap_base.specs.Steps.{Steps, Steps.here, Steps.step, Climb, Climb.climb, Climb-from_leads, leads_from_Climb, Steps-from_reaches, reaches_from_Steps}
use Rattle.olap_ast.proofs.{Decided.{dec_some, decide_holds}, Least.{dec_number, Fits}, Unviolated.edge_discrete}
use Rattle.olap_ast.specs.{Formula.Holds, Schema.{Schema, Constraint}}
use Rattle.olap_ast.specs.Violation.{Violation, Violation.NoEdge, Violation.NoParent, Violation.SameCategory, Violation.TwoAncestors, Violation.Shortcut, Violation.Unmet, IsViolation, rank}
use native.Mathlib.Decide.{ℕ_discrete, dec_lt}
use mathlib.Core.List.{List-discrete}

-- ---- a bound on what an instance speaks of

-- a number above each number of the list, and not below how many there are
above_each : List ℕ → ℕ
above_each [] = 0
above_each (x ∷ xs) = suc x + above_each xs

-- each number in the list is below that
below_above_each : (xs : List ℕ) (x : ℕ) → Contains xs x → x < above_each xs
unfolding above_each
below_above_each [] x c = absurd (omega (arith, c.1))
below_above_each (y ∷ xs) x c = elim (contains_cases x y xs c) [
  | inl e ↦ omega arith
  | inr h ↦ let l = below_above_each xs x h in omega arith
]

-- and how many there are isn't above it
count_above_each : (xs : List ℕ) → length xs < suc (above_each xs)
unfolding above_each
count_above_each [] = omega arith
count_above_each (x ∷ xs) = let l = count_above_each xs in omega arith

-- a number above each place, each category and each count of parents in the instance
above_all : Instance → ℕ
above_all [] = 1
above_all (m ∷ i) = suc m.category + above_each m.parents + above_all i

-- each number that it speaks of is below that
members_below : (i : Instance) → length i < above_all i
unfolding above_all
members_below [] = omega arith
members_below (m ∷ i) = let l = members_below i in omega arith

-- so is each member
member_below : (i : Instance) (x : ℕ) → IsMember i x → x < above_all i
member_below i x h = let l = members_below i in omega arith

-- each category
category_below : (i : Instance) (x : ℕ) → category_of i x < above_all i
unfolding above_all
category_below [] x = omega arith
category_below (m ∷ i) zero = let l = members_below i in omega arith
category_below (m ∷ i) (suc x) = let l = category_below i x in omega arith

-- each count of parents
parents_below : (i : Instance) (x : ℕ) → length (parents_of i x) < above_all i
unfolding above_all
parents_below [] x = omega arith
parents_below (m ∷ i) zero = let l = members_below i in let c = count_above_each m.parents in omega arith
parents_below (m ∷ i) (suc x) = let l = parents_below i x in omega arith

-- and each parent
parent_below : (i : Instance) (x y : ℕ) → IsBelow i x y → y < above_all i
unfolding above_all
parent_below [] x y c = absurd (omega (arith, c.1))
parent_below (m ∷ i) zero y c = let l = below_above_each m.parents y c in omega arith
parent_below (m ∷ i) (suc x) y c = let l = parent_below i x y c in omega arith

-- only a member has a place among its parents
with_parent : (i : Instance) (x k : ℕ) → k < length (parents_of i x) → x < length i
with_parent [] x k h = absurd (omega arith)
with_parent (m ∷ i) zero k h = omega arith
with_parent (m ∷ i) (suc x) k h = let l = with_parent i x k h in omega arith

-- ---- far below

-- where steps from below the bound end is below it
steps_end : (i : Instance) {x y : ℕ} → Steps (IsBelow i) x y → x < above_all i → y < above_all i
steps_end i here l = l
steps_end i (step {x} {y = z} r s) l = steps_end i s (parent_below i x z r)

-- what is far above is below the bound
far_below_end : (i : Instance) (x y : ℕ) → IsFarBelow i x y → y < above_all i
far_below_end i x y f = go (Climb-from_leads f)
  where
    go : Climb (IsBelow i) x y → y < above_all i
    go (climb {z} r s) = steps_end i s (parent_below i x z r)

-- only a member is far below
pub far_below_start : (i : Instance) (x y : ℕ) → IsFarBelow i x y → x < length i
far_below_start i x y f = go (Climb-from_leads f)
  where
    go : Climb (IsBelow i) x y → x < length i
    go (climb {z} r s) = below_is_member i x z r

-- a parent of x reaches y
first_step : (i : Instance) (x y : ℕ) → Climb (IsBelow i) x y → (z : ℕ) × IsBelow i x z × Reaches i z y
first_step i x y (climb {z} r s) = (z, r, reaches_from_Steps s)

-- whether x << y
decide_far_below : (i : Instance) (x y : ℕ) → Dec (IsFarBelow i x y)
decide_far_below i x y = dec_iff (λ t. leads_from_Climb (climb t.1 (Steps-from_reaches t.2)))
    (λ f. first_step i x y (Climb-from_leads f))
    (dec_some (λ z. Reaches i z y) (λ z. decide_reaches i z y) (parents_of i x))

-- ---- whether one is a violation

-- whether y is a parent of x
decide_below : (i : Instance) (x y : ℕ) → Dec (IsBelow i x y)
decide_below i x y = decide_contains ℕ_discrete (parents_of i x) y

-- whether x has a parent at the place
decide_place : (i : Instance) (x k : ℕ) → Dec (k < length (parents_of i x))
decide_place i x k = dec_lt k (length (parents_of i x))

-- whether y and another ancestor of x are of the category c
decide_two_ancestors : (i : Instance) (x c y : ℕ) → Dec ((z : ℕ) × IsFarBelow i x y × IsFarBelow i x z
    × (category_of i y ≡ c) × (category_of i z ≡ c) × (y ≡ z → ⊥))
decide_two_ancestors i x c y = dec_iff (λ t. (t.0, t.1.0, t.1.1.0, t.1.1.1.0, t.1.1.1.1.0, t.1.1.1.1.1))
    (λ t. (t.0, (t.1, (t.2, (t.3, (t.4, t.5))))))
    (dec_number (λ z. IsFarBelow i x y × (IsFarBelow i x z
    × ((category_of i y ≡ c) × ((category_of i z ≡ c) × (y ≡ z → ⊥)))))
    (λ z. dec_and (decide_far_below i x y) (dec_and (decide_far_below i x z)
    (dec_and (ℕ_discrete (category_of i y) c)
    (dec_and (ℕ_discrete (category_of i z) c) (dec_not (ℕ_discrete y z))))))
    (above_all i) (λ z t. far_below_end i x z t.1.0))

-- whether x breaks this constraint
decide_unmet : (i : Instance) (x : ℕ) (o : Option Constraint) →
    Dec ((c : Constraint) × (o ≡ Some c) × IsMemberOf i c.root x × (Holds i x c.formula → ⊥))
decide_unmet i x None = no (λ t. absurd (none t.0 t.1))
  where
    none : (c : Constraint) → None ≡ Some c → ⊥
    none c e = cc
decide_unmet i x (Some d) = dec_iff (λ t. (d, refl, t.0, t.1)) (λ t. same t.0 t.1 (t.2, t.3))
    (dec_and (dec_and (dec_lt x (length i)) (ℕ_discrete (category_of i x) d.root))
    (dec_not (decide_holds i x d.formula)))
  where
    same : (c : Constraint) → Some d ≡ Some c → IsMemberOf i c.root x × (Holds i x c.formula → ⊥) →
        IsMemberOf i d.root x × (Holds i x d.formula → ⊥)
    same c e h = let q : d ≡ c = cc in
        subst (λ (w : Constraint). IsMemberOf i w.root x × (Holds i x w.formula → ⊥)) (sym q) h

-- whether v is a violation
pub decide_violation : (s : Schema) (i : Instance) (v : Violation) → Dec (IsViolation s i v)
decide_violation s i (NoEdge x k) =
    dec_and (decide_place i x k) (dec_not (decide_contains edge_discrete s.graph.edges
    (record { child = category_of i x; parent = category_of i (slice_index (parents_of i x) k) })))
decide_violation s i (NoParent x) = dec_iff (λ t. (t.0, t.1.0, t.1.1)) (λ t. (t.0, (t.1, t.2)))
    (dec_and (dec_lt x (length i)) (dec_and (dec_not (ℕ_discrete (category_of i x) 0))
    (List-discrete ℕ_discrete (parents_of i x) [])))
decide_violation s i (SameCategory x) = dec_iff (λ t. (t.0, t.1.0, t.1.1)) (λ t. (t.0, (t.1, t.2)))
    (dec_number (λ y. IsFarBelow i x y × (category_of i x ≡ category_of i y))
    (λ y. dec_and (decide_far_below i x y) (ℕ_discrete (category_of i x) (category_of i y)))
    (above_all i) (λ y t. far_below_end i x y t.0))
decide_violation s i (TwoAncestors x c) = dec_iff
    (λ t. (t.0, t.1.0, t.1.1, t.1.2, t.1.3, t.1.4, t.1.5)) (λ t. (t.0, (t.1, t.2, t.3, t.4, t.5, t.6)))
    (dec_number (λ y. (z : ℕ) × IsFarBelow i x y × IsFarBelow i x z
    × (category_of i y ≡ c) × (category_of i z ≡ c) × (y ≡ z → ⊥))
    (decide_two_ancestors i x c) (above_all i) (λ y t. far_below_end i x y t.1))
decide_violation s i (Shortcut x k) = dec_iff (λ t. (t.0, t.1.0, t.1.1.0, t.1.1.1))
    (λ t. (t.0, (t.1, (t.2, t.3))))
    (dec_number (λ z. (k < length (parents_of i x))
    × (IsBelow i x z × IsFarBelow i z (slice_index (parents_of i x) k)))
    (λ z. dec_and (decide_place i x k) (dec_and (decide_below i x z)
    (decide_far_below i z (slice_index (parents_of i x) k))))
    (above_all i) (λ z t. parent_below i x z t.1.0))
decide_violation s i (Unmet k x) = decide_unmet i x (slice_get s.constraints k)

-- ---- the bound of the ranks

-- a number above each number in the rank of a violation
pub above_ranks : Schema → Instance → ℕ
above_ranks s i = 7 + length s.constraints + above_all i

-- a constraint's place is below how many there are
place_below : (cs : List Constraint) (k : ℕ) (c : Constraint) → slice_get cs k ≡ Some c → k < length cs
place_below [] k c e = absurd (cc)
place_below (d ∷ ds) zero c e = omega arith
place_below (d ∷ ds) (suc k) c e = let l = place_below ds k c e in omega arith

-- three numbers, of a law and below the bounds
fits : (s : Schema) (i : Instance) (n a b : ℕ) → n < 7 → (a < length s.constraints) ⊎ (a < above_all i) →
    b < above_all i → Fits 3 (above_ranks s i) (n ∷ a ∷ b ∷ [])
unfolding above_ranks
fits s i n a b l (inl h) m = (omega arith, (omega arith, (omega arith, tt)))
fits s i n a b l (inr h) m = (omega arith, (omega arith, (omega arith, tt)))

-- and 0 is below it
some_below : (i : Instance) → 0 < above_all i
some_below i = let l = members_below i in omega arith

-- so are a member with a parent at a place, and the place
parent_place_below : (i : Instance) (x k : ℕ) → k < length (parents_of i x) → (x < above_all i) × (k < above_all i)
parent_place_below i x k h = let l = parents_below i x in
    (member_below i x (with_parent i x k h), omega arith)

-- the rank of a violation is three numbers below that
pub ranks_fit : (s : Schema) (i : Instance) (v : Violation) → IsViolation s i v → Fits 3 (above_ranks s i) (rank v)
ranks_fit s i (NoEdge x k) h = let t = parent_place_below i x k h.0 in fits s i 1 x k (omega arith) (inr t.0) t.1
ranks_fit s i (NoParent x) h = fits s i 2 x 0 (omega arith) (inr (member_below i x h.0)) (some_below i)
ranks_fit s i (SameCategory x) h =
    fits s i 3 x 0 (omega arith) (inr (member_below i x (far_below_start i x h.0 h.1))) (some_below i)
ranks_fit s i (TwoAncestors x c) h = fits s i 4 x c (omega arith)
    (inr (member_below i x (far_below_start i x h.0 h.2))) (subst (λ d. d < above_all i) h.4 (category_below i h.0))
ranks_fit s i (Shortcut x k) h = let t = parent_place_below i x k h.1 in fits s i 5 x k (omega arith) (inr t.0) t.1
ranks_fit s i (Unmet k x) h = fits s i 6 k x (omega arith) (inl (place_below s.constraints k h.0 h.1))
    (member_below i x h.2.0)
