use Rattle.std.proofs.Common.{refl}
use Rattle.olap_trail.specs.Decisions.{present_graph}
use Rattle.olap_proof.proofs.DrawnLemmas.{no_shortcut, same_shortcut}
use Rattle.olap_proof.proofs.drawn.is_shortened.Goals as goal

pub returns-in-Some : goal.returns-in-Some
returns-in-Some c =
    let same = same_shortcut c.args.place.now.decided c.in-Some.edge.0 c.in-Some.ensures.some in
    (λ t. same.0 (c.makes_shortcut.ensures.0 t), λ h. c.makes_shortcut.ensures.1 (same.1 h))

pub returns-in-None : goal.returns-in-None
returns-in-None c =
    let none = no_shortcut (present_graph c.args.place.now.decided) (c.in-None.ensures.none refl) in
    (λ t. cc, λ h. absurd (none h))
