-- The words so far are 0.
use Rattle.std.proofs.Common.{◌≡◌, ℕ, ◌<◌, get_or}
use Rattle.olap_parities.proofs.rows.Row.is_empty.Given as goal

abbrev pub invariant-words : goal.invariant-words
invariant-words g l = (j : ℕ) → j < l.k → get_or l.self.words j 0 ≡ 0
