-- The masks below this one are met.
use Rattle.std.{proofs.Common.{◌≡◌, ◌<◌, ◌↔◌, ℕ}, specs.Int.Bits.bit_and}
use Rattle.olap_cube_summ.specs.Masks.{IsIn}
use Rattle.olap_cube_summ.proofs.masks.meets.Given as goal

abbrev pub invariant-masks : goal.invariant-masks
invariant-masks l = record {
  met : (m : ℕ) → IsIn l.met m
      ↔ ((s p : ℕ) × (s < l.m) × IsIn l.masks s × IsIn l.patterns p × (m ≡ bit_and s p));
}
