-- There was a cycle, or the new edge's parent leads to its child.
use Rattle.std.proofs.{Common.{◌≡◌, ◌↔◌, length, map, subst, arith}, lemmas.List.length-map}
use Rattle.std.specs.Prelude.{IsTrue}
use Rattle.olap_trail.proofs.TableLemmas.{closed_is, closes_is, cycle_read}
use Rattle.olap_trail.specs.Drawing.{Drawing, IsCyclic, edge_of}
use Rattle.olap_trail.proofs.drawing.Drawn.closes_cycle.Goals as goal

pub returns-then-index : goal.returns-then-index
returns-then-index g c =
    let a = c.self.inside in
    let size : c.len.result ≡ length (map edge_of a.edges.items) =
    let l = c.len.ensures in let o = a.edges.ok in let m = length-map a.edges.items edge_of in omega (arith, l, o, m) in
    let old = subst (λ (v : Drawing). IsTrue c.index.result.now ↔ IsCyclic v.edges) c.self.view_is
    (cycle_read c.self.invariant c.len.result c.index.result.now size c.index.ensures) in
    closed_is c.args.self.now.edges c.args.ends.child.0 c.args.ends.parent.0 c.index.result.now c.if-index.true old

pub returns-else-index : goal.returns-else-index
returns-else-index g c =
    let a = c.self.inside in
    let size : c.len.result ≡ length (map edge_of a.edges.items) =
    let l = c.len.ensures in let o = a.edges.ok in let m = length-map a.edges.items edge_of in omega (arith, l, o, m) in
    let old = subst (λ (v : Drawing). IsTrue c.index.result.now ↔ IsCyclic v.edges) c.self.view_is
    (cycle_read c.self.invariant c.len.result c.index.result.now size c.index.ensures) in
    closes_is c.args.self.now.edges c.args.ends.child.0 c.args.ends.parent.0 c.index.result.now c.reaches.result
    c.if-index.false old c.reaches.ensures
