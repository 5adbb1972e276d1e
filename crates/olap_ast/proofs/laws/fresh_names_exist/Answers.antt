use Rattle.olap_ast.proofs.CandidatesExist.{fresh_names_exist}
use Rattle.olap_ast.proofs.laws.fresh_names_exist.Goals as goal

pub returns : goal.returns
returns c = fresh_names_exist
