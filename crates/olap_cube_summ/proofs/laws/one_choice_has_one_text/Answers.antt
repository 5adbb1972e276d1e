-- The law is a lemma.
use Rattle.olap_cube_summ.proofs.OneText.{one_text}
use Rattle.olap_cube_summ.proofs.laws.one_choice_has_one_text.Goals as goal

pub returns : goal.returns
returns c = one_text
