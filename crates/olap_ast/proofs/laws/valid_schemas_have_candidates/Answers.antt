use Rattle.olap_ast.proofs.SourceLemmas.{formulas_have_candidates, sources_have_candidates}
use Rattle.olap_ast.proofs.laws.valid_schemas_have_candidates.Goals as goal

pub returns : goal.returns
returns c = record { formulas = formulas_have_candidates; sources = sources_have_candidates }
