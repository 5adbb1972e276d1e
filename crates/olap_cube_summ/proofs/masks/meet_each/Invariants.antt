-- The patterns below this one are met.
use Rattle.std.{proofs.Common.{◌≡◌, ◌<◌, ◌⊎◌, ◌↔◌, ℕ}, specs.Int.Bits.bit_and}
use Rattle.olap_cube_summ.specs.Masks.{IsIn}
use Rattle.olap_cube_summ.proofs.masks.meet_each.Given as goal

abbrev pub invariant-patterns : goal.invariant-patterns
invariant-patterns l = record {
  met : (m : ℕ) → IsIn l.met m
      ↔ (IsIn l.fn.masks m ⊎ ((p : ℕ) × (p < l.p) × IsIn l.patterns p × (m ≡ bit_and l.mask p)));
}
