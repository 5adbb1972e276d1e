use Rattle.std.proofs.Common.{refl}
use Rattle.olap_trail.specs.Decisions.{present_graph}
use Rattle.olap_proof.proofs.DrawnLemmas.{no_cycle, same_cycle}
use Rattle.olap_proof.proofs.drawn.is_cyclic.Goals as goal

pub returns-in-Some : goal.returns-in-Some
returns-in-Some c =
    let same = same_cycle c.args.place.now.decided c.in-Some.edge.0 c.in-Some.ensures.some in
    (λ t. same.0 (c.closes_cycle.ensures.0 t), λ h. c.closes_cycle.ensures.1 (same.1 h))

pub returns-in-None : goal.returns-in-None
returns-in-None c =
    let none = no_cycle (present_graph c.args.place.now.decided) (c.in-None.ensures.none refl) in
    (λ t. cc, λ h. absurd (none h))
