-- All words are added.
use Rattle.std.proofs.Common.{rules}
use Rattle.olap_parities.proofs.RowLemmas.{added_start, added_step, sum_added}
use Rattle.olap_parities.proofs.rows.Row.add.Goals as goal

pub words-init : goal.words-init
words-init g c = added_start

pub words-preserved : goal.words-preserved
words-preserved g c = added_step c.words.invariant (search rules)

pub returns : goal.returns
returns g c = sum_added c.words.invariant (search rules) (search rules)
