-- There are no more decisions than edges.
use Rattle.std.proofs.{Common.arith, lemmas.List.length-map}
use Rattle.olap_trail.{proofs.CountingLemmas.few_decisions, specs.Inside.decided, specs.Trails.decision_of}
use Rattle.olap_trail.proofs.trails.Trail.mark.Goals as goal

pub overflow_cast-result : goal.overflow_cast-result
overflow_cast-result g c =
    let n = few_decisions (decided a) c.self.invariant.decisions in
    let m = length-map a.decisions.items decision_of in
    omega (arith, n, m, f, l, o)
  where
    open c use {self.inside as a, self.invariant.few_edges as f, self.inside.decisions.ok as o, len.ensures as l}
