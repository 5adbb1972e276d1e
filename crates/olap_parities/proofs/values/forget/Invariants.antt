-- Nothing is known of the variables so far.
use Rattle.std.proofs.Common.{◌≡◌, ℕ, ◌<◌, get_or, None}
use Rattle.olap_parities.proofs.values.forget.Given as goal

abbrev pub invariant-values : goal.invariant-values
invariant-values l = (j : ℕ) → j < l.k → get_or l.values j None ≡ None
