-- This many of the sources from this one on have their bits in the mask.
use Rattle.std.{proofs.Common.{◌≤◌, ◌+◌, ◌-◌}, specs.List.range_with_len}
use Rattle.olap_base.specs.OneFact.{HoldsTimes}
use Rattle.olap_cube_summ.specs.Masks.{Has}
use Rattle.olap_cube_summ.proofs.masks.is_bad.Given as goal

abbrev pub invariant-sources : goal.invariant-sources
invariant-sources l = record {
  left : l.left ≤ l.sources;
  few : l.count + l.left ≤ l.sources;
  counted : HoldsTimes (Has l.mask) (range_with_len l.left (l.sources - l.left)) l.count;
}

abbrev pub decreases-sources : goal.decreases-sources
decreases-sources l = l.left
