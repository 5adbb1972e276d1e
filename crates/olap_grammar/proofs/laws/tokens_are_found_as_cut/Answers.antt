use Rattle.olap_grammar.proofs.{CutComplete.cut_is_found, CutSound.found_is_cut}
use Rattle.olap_grammar.proofs.laws.tokens_are_found_as_cut.Goals as goal

pub returns : goal.returns
returns c = λ v line ts. (λ e. found_is_cut v line ts e, λ d. cut_is_found v line ts d)
