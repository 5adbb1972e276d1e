-- The words so far are added, and the others are the row's own.
use Rattle.olap_parities.proofs.RowLemmas.{IsAdded}
use Rattle.olap_parities.proofs.rows.Row.add.Given as goal

abbrev pub invariant-words : goal.invariant-words
invariant-words g l = IsAdded l.fn.self.words l.other.words l.self.words l.k
