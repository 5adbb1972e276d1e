use Rattle.olap_ast.proofs.Determined.{findings_are_one}
use Rattle.olap_ast.proofs.laws.the_findings_are_one.Goals as goal

pub returns : goal.returns
returns c = findings_are_one
