use Rattle.std.proofs.Common.{◌≡◌, ◌∙◌, refl, sym, arith, Some, false}
use Rattle.olap_graph.specs.Lookups.{edges_from}
use Rattle.olap_trail.specs.Decisions.{status_of}
use Rattle.olap_proof.proofs.EdgesOutLemmas.{all_out, one_out}
use Rattle.olap_proof.proofs.leaves.has_no_parent.Goals as goal

pub returns-then-not-is_absent : goal.returns-then-not-is_absent
returns-then-not-is_absent c = (
  λ t. absurd (cc),
  λ all.
      let s = c.args.known.now in
      let here = one_out (λ e. status_of s.place.now.decided e ≡ Some false) c.parents-edges.result.now
      (edges_from s.graph.now c.args.c.0) c.parents-edges.ensures.list all c.edges.i c.edges-test.true in
      sym c.if-not-is_absent.true ∙ c.is_absent.ensures.1 here,
)

pub returns : goal.returns
returns c = (
  λ t.
      let s = c.args.known.now in
      all_out (λ e. status_of s.place.now.decided e ≡ Some false) c.parents-edges.result.now
      (edges_from s.graph.now c.args.c.0) c.parents-edges.ensures.list
      (λ k l. c.edges.invariant k (let e = c.edges-test.false in let i = c.edges.auto.i-end in omega arith)),
  λ all. refl,
)
