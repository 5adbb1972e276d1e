use Rattle.olap_ast.proofs.Renaming.{renaming_is_harmless}
use Rattle.olap_ast.proofs.laws.renaming_is_harmless.Goals as goal

pub returns : goal.returns
returns c = renaming_is_harmless
