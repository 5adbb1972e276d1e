use Rattle.olap_grammar.proofs.ReaderLemmas.{formula_is_found, found_is_formula}
use Rattle.olap_grammar.proofs.laws.formulas_are_found_as_formed.Goals as goal

pub returns : goal.returns
returns c = λ a ts f. (λ e. found_is_formula a ts f e, λ d. formula_is_found a ts f d)
