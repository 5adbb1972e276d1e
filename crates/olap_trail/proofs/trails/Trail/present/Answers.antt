-- What is above the root.
use Rattle.std.proofs.Common.{◌↔◌, List, subst}
use Rattle.olap_bits.specs.Sets.{members}
use Rattle.olap_base.specs.Graph.{Edge}
use Rattle.olap_trail.{proofs.DecisionLemmas.reaches_is, specs.Decisions.{Decided, IsPresent, present_edges}}
use Rattle.olap_trail.specs.{Drawing.{IsAbove, IsIn}, Inside.decided}
use Rattle.olap_trail.proofs.trails.Trail.present.Goals as goal

pub returns : goal.returns
returns g c = λ x.
    let a = c.self.inside in
    let r = members c.above.result in
    let above = subst (λ (es : List Edge). IsAbove es a.root.0 r) c.self.invariant.edges c.above.ensures in
    let q = reaches_is (present_edges (decided a)) a.root.0 x in
    subst (λ (v : Decided). IsIn r x ↔ IsPresent v x) c.self.view_is
    (λ m. q.0 ((above x).0 m), λ w. (above x).1 (q.1 w))
