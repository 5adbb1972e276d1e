use Rattle.std.{proofs.Common.{◌≡◌, subst, true, false}, specs.Prelude.IsNone}
use Rattle.olap_nav.proofs.planning.pattern_of.Goals as goal

pub returns-clause-none : goal.returns-clause-none
returns-clause-none c = (
  λ e. absurd (let z : true ≡ false = e in cc),
  λ z. absurd (let e : true ≡ false = subst IsNone c.in-Some.is (c.in_ok-found.ensures.none.1 z) in cc),
)
