-- What the edges that were decided present say, with this one.
use Rattle.std.{proofs.Common.{◌↔◌, ◌++◌, ◌∷◌, [], List, subst, sym}, specs.Prelude.IsTrue}
use Rattle.olap_base.specs.Graph.{Edge}
use Rattle.olap_trail.specs.{Decisions.{Decided, present_edges}, Drawing.{IsCyclic, edge_of}}
use Rattle.olap_trail.proofs.trails.Trail.closes_cycle.Goals as goal

pub returns : goal.returns
returns g c =
    let e = edge_of c.ends.result in
    let r = c.closes_cycle.result in
    let read = subst (λ (es : List Edge). IsTrue r ↔ IsCyclic (es ++ e ∷ [])) c.self.invariant.edges
    c.closes_cycle.ensures in
    let seen = subst (λ (v : Decided). IsTrue r ↔ IsCyclic (present_edges v ++ e ∷ [])) c.self.view_is read in
    subst (λ (x : Edge). IsTrue r ↔ IsCyclic (present_edges c.args.self.now ++ x ∷ [])) (sym c.ends.ensures.edge) seen
