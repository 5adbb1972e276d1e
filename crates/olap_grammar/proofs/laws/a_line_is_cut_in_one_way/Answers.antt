use Rattle.olap_grammar.proofs.CutterLemmas.{one_cut}
use Rattle.olap_grammar.proofs.laws.a_line_is_cut_in_one_way.Goals as goal

pub returns : goal.returns
returns c = one_cut
