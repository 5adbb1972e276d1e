-- What the edges that were decided present say, with this one.
use Rattle.std.{proofs.Common.{◌↔◌, ◌++◌, ◌∷◌, [], List, subst, sym}, specs.Prelude.IsTrue}
use Rattle.olap_base.specs.Graph.{Edge}
use Rattle.olap_trail.{proofs.DecisionLemmas.shortcut_is, specs.Decisions.{Decided, present_edges, present_with}}
use Rattle.olap_trail.specs.Drawing.{HoldsBypass, edge_of}
use Rattle.olap_trail.proofs.trails.Trail.makes_shortcut.Goals as goal

pub returns : goal.returns
returns g c =
    let e = edge_of c.ends.result in
    let r = c.makes_shortcut.result in
    let read = subst (λ (es : List Edge). IsTrue r ↔ HoldsBypass (es ++ e ∷ [])) c.self.invariant.edges
    c.makes_shortcut.ensures in
    let seen = subst (λ (v : Decided). IsTrue r ↔ HoldsBypass (present_edges v ++ e ∷ [])) c.self.view_is read in
    let held = subst (λ (x : Edge). IsTrue r ↔ HoldsBypass (present_edges c.args.self.now ++ x ∷ []))
    (sym c.ends.ensures.edge) seen in
    let q = shortcut_is (present_with c.args.self.now c.args.edge.0) in
    (λ m. q.0 (held.0 m), λ w. held.1 (q.1 w))
