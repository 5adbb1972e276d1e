use Rattle.olap_ast.proofs.ThreeValueLemmas.{values_agree}
use Rattle.olap_ast.proofs.three_values.values_agree.Goals as goal

pub returns : goal.returns
returns c = values_agree
