use Rattle.olap_summ.proofs.AgreementLemmas.{decisions_agree_lem}
use Rattle.olap_summ.proofs.laws.decisions_agree.Goals as goal

pub returns : goal.returns
returns c = decisions_agree_lem c.the_counterexample_is_one.ensures
