-- No search before is of this root.
use Rattle.std.{proofs.Common.{◌≡◌, ◌<◌, ◌-◌, ℕ, length}, specs.Prelude.slice_index}
use Rattle.olap_summ.specs.Decisions.{roots_in}
use Rattle.olap_summ.proofs.deciding.Decision.place_of.Given as goal

abbrev pub invariant-searches : goal.invariant-searches
invariant-searches l = (j : ℕ) → j < l.place → slice_index (roots_in l.self) j ≡ l.root.0 → ⊥

abbrev pub decreases-searches : goal.decreases-searches
decreases-searches l = length (roots_in l.self) - l.place
