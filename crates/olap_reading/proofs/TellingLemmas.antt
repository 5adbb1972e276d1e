-- The members that a violation names are there, and its words.
use Rattle.std.proofs.Common.{◌≡◌, ℕ, ap, refl, subst, sym, ◌∙◌}
use Rattle.std.specs.Prelude.{Result, Ok, Err, None, IfOk, IfErr, MatchResult}
use Rattle.olap_base.specs.{Deciding.below_is_member, Graph.IsCategory}
use Rattle.olap_base.specs.Instance.{Instance, IsBelow, IsFarBelow, IsInstance, IsMember}
use Rattle.olap_base.specs.Steps.{Steps, Steps.here, Steps.step, Climb, Climb.climb, Climb-from_leads}
use Rattle.olap_base.specs.declared.refusals.Refusal.{Refusal}
use Rattle.olap_ast.specs.Schema.{Schema, IsLegal}
use Rattle.olap_ast.specs.Violation.{Violation, NoEdge, NoParent, SameCategory, TwoAncestors, Shortcut, Unmet, IsViolation}
use Rattle.olap_check.proofs.FirstLemmas.{parent_at}
use Rattle.olap_check.specs.FirstViolation.{first_violation, first_violation_none, first_violation_some}
use Rattle.olap_check.specs.{Reports.{told, IsRefused}, declared.violations.Illegal.Illegal}
use Rattle.olap_reading.specs.{Broken.IsBrokenBy, Telling.{IsTellable, told_text}, Violations.violation_text}
use Rattle.olap_instance.specs.Made.{IsMadeFor}
use Rattle.olap_base.specs.declared.refusals.Refusal.TheVariants as refusal

-- what is reached by steps from a member is one
steps_inside : (i : Instance) → IsInstance i → {x y : ℕ} → Steps (IsBelow i) x y → IsMember i x → IsMember i y
steps_inside i v here h = h
steps_inside i v (step {x} {y} r s) h = steps_inside i v s (v.parents_are_members x y r)

-- what is far below another is a member
far_from : (i : Instance) (x y : ℕ) → IsFarBelow i x y → IsMember i x
far_from i x y f = go (Climb-from_leads f)
  where
    go : Climb (IsBelow i) x y → IsMember i x
    go (climb {z} r s) = below_is_member i x z r

-- what another is far below is a member
far_to : (i : Instance) → IsInstance i → (x y : ℕ) → IsFarBelow i x y → IsMember i y
far_to i v x y f = go (Climb-from_leads f)
  where
    go : Climb (IsBelow i) x y → IsMember i y
    go (climb {z} r s) = steps_inside i v s (v.parents_are_members x z r)

-- the members and the category of a violation are there
pub tellable : (s : Schema) (i : Instance) → IsInstance i → IsMadeFor s.graph i → (w : Violation) → IsViolation s i w
    → IsTellable s.graph i (told i w)
tellable s i v m (NoEdge x k) w =
    let b = parent_at i x k w.0 in (below_is_member i x _ b, v.parents_are_members x _ b)
tellable s i v m (NoParent x) w = w.0
tellable s i v m (SameCategory x) w = far_from i x w.0 w.1
tellable s i v m (TwoAncestors x c) w =
    (far_from i x w.0 w.2, subst (λ d. IsCategory s.graph d) w.4 (m.categories w.0 (far_to i v x w.0 w.2)))
tellable s i v m (Shortcut x k) w =
    let b = parent_at i x k w.1 in (below_is_member i x _ b, v.parents_are_members x _ b)
tellable s i v m (Unmet k x) w = w.2.0

-- the program's words for a violation are those of the violation
words_are : (s : Schema) (i : Instance) (w : Violation) → told_text s.graph i (told i w) ≡ violation_text s.graph i w
words_are s i (NoEdge x k) = refl
words_are s i (NoParent x) = refl
words_are s i (SameCategory x) = refl
words_are s i (TwoAncestors x c) = refl
words_are s i (Shortcut x k) = refl
words_are s i (Unmet k x) = refl

-- what a check answers is whether there is a violation, and the first one
pub judged_is : (s : Schema) (i : Instance) → IsInstance i → IsMadeFor s.graph i
    → (r : Result Instance (Refusal Illegal))
    → IfOk r (λ l. IsLegal s i)
    → IfErr r (IsRefused s i) → MatchResult r (λ l. first_violation s i ≡ None) (λ e. IsBrokenBy s i e)
judged_is s i v m (Ok l) ok err = first_violation_none s i ok
judged_is s i v m (Err (refusal.Kind back)) ok err = (
  err.0,
  record {
    violation = err.1.violation;
    first = first_violation_some s i v err.1.violation err.1.is_first;
    words = ap (told_text s.graph i) err.1.is_told ∙ words_are s i err.1.violation;
    tellable = subst (λ u. IsTellable s.graph i u) (sym err.1.is_told)
        (tellable s i v m err.1.violation err.1.is_first.is_one);
  },
)
judged_is s i v m (Err (refusal.Memory e)) ok err = tt
