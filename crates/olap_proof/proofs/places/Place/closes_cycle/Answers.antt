use Rattle.std.proofs.Common.{◌↔◌, IsTrue, subst}
use Rattle.olap_trail.specs.Decisions.{HoldsCycle, present_with}
use Rattle.olap_proof.specs.Places.{Place}
use Rattle.olap_proof.proofs.places.Place.closes_cycle.Goals as goal

pub returns : goal.returns
returns c = subst (λ (p : Place). IsTrue c.closes_cycle.result ↔ HoldsCycle (present_with p.decided c.args.edge.0))
    c.self.view_is c.closes_cycle.ensures
