use Rattle.std.proofs.Common.{◌∙◌, refl, sym, arith}
use Rattle.olap_graph.specs.Lookups.{edges_from}
use Rattle.olap_proof.{proofs.EdgesOutLemmas.{all_out, one_out}, specs.Lines.IsNoStep}
use Rattle.olap_proof.proofs.leaves.has_no_step.Goals as goal

pub returns-then-not-is_no_step : goal.returns-then-not-is_no_step
returns-then-not-is_no_step c = (
  λ t. absurd (cc),
  λ all.
      let s = c.args.known.now in
      let here = one_out (IsNoStep s.form s.graph.now s.place.now c.args.to.0) c.parents-edges.result.now
      (edges_from s.graph.now c.args.from.0) c.parents-edges.ensures.list all c.edges.i c.edges-test.true in
      sym c.if-not-is_no_step.true ∙ c.is_no_step.ensures.1 here,
)

pub returns : goal.returns
returns c = (
  λ t.
      let s = c.args.known.now in
      all_out (IsNoStep s.form s.graph.now s.place.now c.args.to.0) c.parents-edges.result.now
      (edges_from s.graph.now c.args.from.0) c.parents-edges.ensures.list
      (λ k l. c.edges.invariant k (let e = c.edges-test.false in let i = c.edges.auto.i-end in omega arith)),
  λ all. refl,
)
