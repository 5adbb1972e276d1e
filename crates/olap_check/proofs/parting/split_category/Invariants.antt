-- In no category so far are two members above x.
use Rattle.std.proofs.Common.{ℕ, ◌<◌}
use Rattle.olap_check.specs.Splitting.{SplitsAt}
use Rattle.olap_check.proofs.parting.split_category.Given as goal

abbrev pub invariant-categories : goal.invariant-categories
invariant-categories l = (d : ℕ) → d < l.c → SplitsAt l.instance l.x d → ⊥
