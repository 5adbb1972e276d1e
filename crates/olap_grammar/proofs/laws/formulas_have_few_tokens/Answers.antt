use Rattle.olap_grammar.proofs.FewTokens.{few_tokens}
use Rattle.olap_grammar.proofs.laws.formulas_have_few_tokens.Goals as goal

pub returns : goal.returns
returns c = few_tokens
