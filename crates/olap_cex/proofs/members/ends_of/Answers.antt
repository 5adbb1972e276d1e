-- A chosen edge has two ends.
use Rattle.std.{proofs.Common.{◌+◌, ap, sym, subst, ◌∙◌, arith, get_or, false}, specs.FinSet.insert}
use Rattle.olap_bits.specs.Sets.{members}
use Rattle.olap_cex.proofs.EndLemmas.{AreEnds, ends_all, ends_less, ends_more, ends_none}
use Rattle.olap_cex.proofs.members.ends_of.Goals.{then-edges-from, else-edges-from}
use Rattle.olap_cex.proofs.members.ends_of.Goals as goal

pub edges-init : goal.edges-init
edges-init c = ends_none c.args.graph.now.edges c.args.edges.now (members c.empty-found.result) c.empty-found.ensures

pub edges-preserved : goal.edges-preserved
edges-preserved c =
    let at = ap (λ n. get_or bits n false) (sym c.from.ensures) in
    elim c.if-edges-from.branch [
      | then-edges-from w ↦ subst (λ s. AreEnds es bits (k + 1) (members s)) (sym w.found-is)
          (ends_more es bits k w.ends.result.0.0 w.ends.result.1.0 (members c.edges.found) (members w.with-found.result)
          (at ∙ w.if-edges-from.true) w.ends.ensures.edge
          (w.with-found.ensures ∙ ap (λ s. insert s w.ends.result.1.0) w.with.ensures) c.edges.invariant)
      | else-edges-from w ↦ subst (λ s. AreEnds es bits (k + 1) (members s)) (sym w.found-is)
          (ends_less es bits k (members c.edges.found) (at ∙ w.if-edges-from.false) c.edges.invariant)
    ]
  where
    open c use {args.graph.now.edges as es, args.edges.now as bits, edges.e as k}

pub returns : goal.returns
returns c = λ x.
    ends_all c.args.graph.now.edges c.args.edges.now c.edges.e (members c.edges.found)
    (let n = c.edges-e-end.ensures.count in let t = c.edges-test.false in let l = c.edges.auto.e-end in omega arith)
    c.edges.invariant x
