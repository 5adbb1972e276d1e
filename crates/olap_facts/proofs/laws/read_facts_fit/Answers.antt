use Rattle.olap_facts.proofs.FittingLemmas.{read-facts-fit}
use Rattle.olap_facts.proofs.laws.read_facts_fit.Goals as goal

pub returns : goal.returns
returns c = read-facts-fit
