use Rattle.std.proofs.Common.{◌∙◌}
use Rattle.olap_bits.specs.Sets.{members}
use Rattle.olap_proof.{proofs.TellingLemmas.walk_test, specs.Places.possible_graph}
use Rattle.olap_proof.proofs.telling.Known.may_lead.Goals as goal

pub returns-in-Some : goal.returns-in-Some
returns-in-Some c = c.has.ensures ∙ walk_test (possible_graph c.args.self.now.place.now.decided) c.args.c.0
    (members c.in-Some.reached) c.args.d.0 c.in-Some.ensures

pub returns-in-None : goal.returns-in-None
returns-in-None c = c.has-in-None.ensures ∙ walk_test (possible_graph c.args.self.now.place.now.decided) c.args.c.0
    (members c.possible_from.result) c.args.d.0 c.possible_from.ensures
