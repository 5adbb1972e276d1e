use Rattle.olap_needs.proofs.NeedLemmas.{emptied_are_one}
use Rattle.olap_needs.proofs.laws.emptied_are_one.Goals as goal

pub returns : goal.returns
returns c = emptied_are_one
