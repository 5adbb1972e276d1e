-- One parent more, and then all of them.
use Rattle.std.proofs.Common.{◌≢◌, refl, sym, subst, ◌∙◌, true≢false, arith}
use Rattle.olap_check.specs.Strata.{LeadsBack}
use native.Mathlib.Decide.{ℕ_discrete}
use Rattle.olap_check.proofs.strata.is_on_cycle.Goals as goal

pub parents-init : goal.parents-init
parents-init c = λ d h. absurd (omega (arith, h))

pub parents-preserved : goal.parents-preserved
parents-preserved c = λ d h p. elim (ℕ_discrete d c.parents.parent) [
  | yes e ↦
      let back = subst (λ k. LeadsBack c.args.graph.now c.args.category k) e p in
      absurd (true≢false (sym (c.leads_back.ensures.1 back) ∙ c.if-leads_back.false))
  | no n ↦ let ne : d ≢ c.parents.parent = n in c.parents.invariant d (omega (arith, h)) p
]

pub returns-then-leads_back : goal.returns-then-leads_back
returns-then-leads_back c =
    (λ t. (c.parents.parent, c.leads_back.ensures.0 c.if-leads_back.true), λ w. refl)

pub returns : goal.returns
returns c = (
  λ t. absurd (true≢false (sym t)),
  λ w. let inside = (c.categories-parent-end.ensures.hierarchy.categories c.args.category w.0 w.1.0).1 in
      let count = c.categories-parent-end.ensures.count in
      let end = c.parents-test.false in
      absurd (c.parents.invariant w.0 (omega (arith, inside)) w.1),
)
