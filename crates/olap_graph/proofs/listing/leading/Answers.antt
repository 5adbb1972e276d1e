use Rattle.std.proofs.Common.{◌≢◌, get_or, refl, sym, ◌∙◌, below_more, arith}
use Rattle.std.proofs.lemmas.List.{get_or_default, length-map}
use Rattle.olap_graph.{proofs.TableLemmas.{nowhere, parent_read}, specs.Lookups.edge_at, specs.Marking.parents_of}
use Rattle.olap_graph.specs.Tables.{drawn}
use Rattle.olap_graph.proofs.listing.leading.Goals as goal

pub loop-e-preserved : goal.loop-e-preserved
loop-e-preserved c =
    let p = (get_or ends c.from.result nowhere).parent.0 in
    below_more (λ j. get_or (parents_of (drawn ends) out) j 0 ≢ c.args.parent.0) k c.loop-e.invariant
    (λ e. c.if-edges-from.false
    (sym (parent_read ends out k c.from.result p c.loop-e-test.true c.requires c.from.ensures refl) ∙ e))
  where
    open c use {args.edges.now as ends, args.out.now as out, loop-e.e-index as k}

pub returns-clause-none : goal.returns-clause-none
returns-clause-none c = λ h.
    let ps = parents_of (drawn ends) out in
    let l = length-map out (λ e. (edge_at (drawn ends) e.0).parent) in
    let t = c.loop-e-test.false in
    let i = h.1 in
    c.loop-e.invariant h.0 (omega arith) (get_or_default ps h.0 0 c.args.parent.0 h.1 ∙ h.2)
  where
    open c use {args.edges.now as ends, args.out.now as out}
