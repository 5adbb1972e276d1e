use Rattle.olap_facts.proofs.MeaningLemmas.{facts-named}
use Rattle.olap_facts.proofs.laws.facts_are_meant.Goals as goal

pub returns : goal.returns
returns c = facts-named
