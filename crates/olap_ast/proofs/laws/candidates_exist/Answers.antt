use Rattle.olap_ast.proofs.CandidatesExist.{candidates_exist}
use Rattle.olap_ast.proofs.laws.candidates_exist.Goals as goal

pub returns : goal.returns
returns c = candidates_exist
