-- None of the parents so far leads back.
use Rattle.std.proofs.Common.{◌<◌, ℕ}
use Rattle.olap_check.specs.Strata.{LeadsBack}
use Rattle.olap_check.proofs.strata.is_on_cycle.Given as goal

abbrev pub invariant-parents : goal.invariant-parents
invariant-parents l = (d : ℕ) → d < l.parent → LeadsBack l.graph l.category d → ⊥
