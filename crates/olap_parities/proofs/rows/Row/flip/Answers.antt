-- One bit is turned.
use Rattle.std.proofs.Common.{rules}
use Rattle.olap_parities.proofs.RowLemmas.{sum_turned}
use Rattle.olap_parities.proofs.rows.Row.flip.Goals as goal

pub returns-clause-done : goal.returns-clause-done
returns-clause-done g c = λ _. sum_turned c.args.self.now.words c.args.column (search rules)
