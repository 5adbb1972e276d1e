-- What the edges that were decided present say.
use Rattle.std.{proofs.Common.{◌≡◌, ◌⊎◌, ◌↔◌, List, subst}, specs.Prelude.IsTrue}
use Rattle.olap_base.specs.{Graph.{CategoryReaches, Edge}, Steps.Climb}
use Rattle.olap_trail.{proofs.DecisionLemmas.reaches_is, specs.Decisions.{Decided, present_edges, present_graph}}
use Rattle.olap_trail.specs.{Drawing.Joins, Inside.decided}
use Rattle.olap_trail.proofs.trails.Trail.reaches.Goals as goal

pub returns : goal.returns
returns g c =
    let read = subst (λ (es : List Edge). IsTrue r ↔ ((x ≡ y) ⊎ Climb (Joins es) x y)) c.self.invariant.edges
    c.reaches.ensures in
    let q = reaches_is (present_edges (decided c.self.inside)) x y in
    subst (λ (v : Decided). IsTrue r ↔ CategoryReaches (present_graph v) x y) c.self.view_is
    (λ m. q.0 (read.0 m), λ w. read.1 (q.1 w))
  where
    open c use {args.c.0 as x, args.d.0 as y, reaches.result as r}
