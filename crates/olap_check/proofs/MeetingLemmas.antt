-- Constraints, one after another.
use Rattle.std.proofs.Common.{◌≡◌, ℕ, ◌+◌, ◌-◌, ◌*◌, ◌<◌, ◌≤◌, List, length, map, get_or, take, drop, min, ap, sym, subst, ◌∙◌, arith, below_more, inl, inr}
use Rattle.std.proofs.lemmas.Bool.{cases_lt}
use Rattle.std.proofs.lemmas.List.{get_or-drop, get_or-map, get_or-take, get_or_default, length-drop, length-map, length-take-le}
use Rattle.std.specs.Prelude.{Contains}
use Rattle.olap_ast.specs.{Formula.{Formula, Holds}, Schema.{Constraint, Meets}, Trees.constraint_of}
use Rattle.olap_ast.specs.declared.formulas.Constraint.{Constraint as Stored}
use Rattle.olap_base.specs.Instance.{Instance, IsMemberOf}
use Rattle.olap_check.{proofs.GroupLemmas.count_below, specs.Blocks.{IsFirstUnmetFrom, IsPart, width}}
use Rattle.olap_check.specs.Groups.{IsGroup, IsNth, count_before}
use Rattle.olap_check.specs.Meeting.{IsFirstUnmet, IsFirstViolated, constraint_at, no_constraint}

-- ---- one formula, block by block

-- a part of the root's members is a block's
pub part_of : (i : Instance) (root start end : ℕ) (group part : List ℕ) → IsGroup i root group
    → start ≤ length group → end ≡ min (length group) (start + width) → part ≡ take (end - start) (drop start group)
    → IsPart i root start part
part_of i root start end group part g h e q = record {
  few = omega (arith, size, e);
  each = λ k l.
      let inside : k < end - start = omega (arith, l, size) in
      let read : get_or part k 0 ≡ get_or group (start + k) 0 =
      ap (λ xs. get_or xs k 0) q ∙ get_or-take (end - start) (drop start group) k 0 inside
      ∙ get_or-drop start group k 0 in
      subst (λ x. IsNth i root (start + k) x) (sym read) (g.each (start + k) (omega (arith, inside, e)));
  whole = λ k x l nth.
      let below = count_below i root x (length i) nth.0 nth.0.0 in
      let whole = g.whole in
      let here = nth.1 in
      omega (arith, below, whole, here, size, e, l);
}
  where
    size : length part ≡ end - start
    size = ap length q ∙ length-take-le (end - start) (drop start group) (omega (arith, e, h, length-drop start group))

module _ (i : Instance) (root : ℕ) (f : Formula) (step : ℕ)
    (before : (w : ℕ) → count_before i root w < step * width → IsMemberOf i root w → Holds i w f) where
  -- the first of all at which it is false
  pub first_of_all : (x : ℕ) → IsFirstUnmetFrom i root f (step * width) x → IsFirstUnmet i root f x
  first_of_all x u = record {
    is_member = u.is_member;
    unmet = u.unmet;
    before = λ w h m. elim (cases_lt (count_before i root w) (step * width)) [
      | inl l ↦ before w l m
      | inr l ↦ u.before w l h m
    ];
  }

  -- all members of the root have been tested
  pub true_at_all : (group : List ℕ) → IsGroup i root group → length group ≤ step * width → (w : ℕ)
      → IsMemberOf i root w → Holds i w f
  true_at_all group g h w m =
      let below = count_below i root w (length i) m m.0 in
      let whole = g.whole in
      before w (omega (arith, below, whole, h)) m

-- ---- all constraints

-- the k-th of the stored constraints is the k-th constraint
module _ (i : Instance) (stored : List Stored) (k : ℕ) (item : Stored) (inside : k < length stored)
    (is : item ≡ get_or stored k item) where
  -- the constraint that is read
  at : constraint_at (map constraint_of stored) k ≡ constraint_of item
  at = get_or-map constraint_of stored k item no_constraint inside ∙ ap constraint_of (sym is)

  -- one more constraint is met
  pub met_more : ((j : ℕ) → j < k → Meets i (constraint_at (map constraint_of stored) j)) → Meets i (constraint_of item)
      → (j : ℕ) → j < k + 1 → Meets i (constraint_at (map constraint_of stored) j)
  met_more before met =
      let P : ℕ → Type 0 = λ j. Meets i (constraint_at (map constraint_of stored) j) in
      below_more P k before (subst (λ c. Meets i c) (sym at) met)

  -- the first that is not
  pub first_violated_of : (x : ℕ) → ((j : ℕ) → j < k → Meets i (constraint_at (map constraint_of stored) j))
      → IsFirstUnmet i (constraint_of item).root (constraint_of item).formula x
      → IsFirstViolated i (map constraint_of stored) k x
  first_violated_of x before here = record {
    inside = subst (λ n. k < n) (sym (length-map stored constraint_of)) inside;
    here = subst (λ c. IsFirstUnmet i c.root c.formula x) (sym at) here;
    before = before;
  }

-- all constraints are met
pub all_met : (i : Instance) (stored : List Stored) (k : ℕ) → length stored ≤ k
    → ((j : ℕ) → j < k → Meets i (constraint_at (map constraint_of stored) j))
    → (c : Constraint) → Contains (map constraint_of stored) c → Meets i c
all_met i stored k h before c m =
    let inside : m.0 < k = let l = length-map stored constraint_of in omega (arith, m.1, l) in
    let e = get_or_default (map constraint_of stored) m.0 no_constraint c m.1 ∙ m.2 in
    subst (λ d. Meets i d) e (before m.0 inside)
