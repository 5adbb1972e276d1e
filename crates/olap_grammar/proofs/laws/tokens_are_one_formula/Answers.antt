use Rattle.olap_grammar.proofs.ReaderLemmas.{one_tree}
use Rattle.olap_grammar.proofs.laws.tokens_are_one_formula.Goals as goal

pub returns : goal.returns
returns c = one_tree
