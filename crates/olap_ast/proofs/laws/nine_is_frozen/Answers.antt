use Rattle.olap_ast.proofs.NumberExample.{nine_is_frozen}
use Rattle.olap_ast.proofs.laws.nine_is_frozen.Goals as goal

pub returns : goal.returns
returns c = nine_is_frozen
