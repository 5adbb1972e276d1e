-- None of the masks below this one is bad.
use Rattle.std.proofs.Common.{ℕ, ◌<◌}
use Rattle.olap_cube_summ.specs.Masks.{IsBad, IsIn}
use Rattle.olap_cube_summ.proofs.masks.has_bad.Given as goal

abbrev pub invariant-masks : goal.invariant-masks
invariant-masks l = record { none : (s : ℕ) → s < l.m → IsIn l.masks s → IsBad l.sources s → ⊥ }
