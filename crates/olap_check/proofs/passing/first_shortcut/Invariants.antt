-- No member so far has a shortcut.
use Rattle.std.proofs.Common.{ℕ, ◌<◌}
use Rattle.olap_check.specs.Passing.{HasNoneAt}
use Rattle.olap_check.proofs.passing.first_shortcut.Given as goal

abbrev pub invariant-members : goal.invariant-members
invariant-members l = (w : ℕ) → w < l.x → HasNoneAt l.instance w
