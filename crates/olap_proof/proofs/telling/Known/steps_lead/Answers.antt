use Rattle.std.proofs.Common.{◌∙◌}
use Rattle.olap_bits.specs.Sets.{members}
use Rattle.olap_proof.{proofs.TellingLemmas.walk_test, specs.Places.leading_graph}
use Rattle.olap_proof.proofs.telling.Known.steps_lead.Goals as goal

pub returns-in-Some : goal.returns-in-Some
returns-in-Some c = c.has.ensures ∙ walk_test (leading_graph c.args.self.now.place.now) c.args.c.0
    (members c.in-Some.reached) c.args.d.0 c.in-Some.ensures

pub returns-in-None : goal.returns-in-None
returns-in-None c = c.has-in-None.ensures ∙ walk_test (leading_graph c.args.self.now.place.now) c.args.c.0
    (members c.known_from.result) c.args.d.0 c.known_from.ensures
