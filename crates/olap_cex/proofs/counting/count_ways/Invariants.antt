-- The ways among the sources so far are counted.
use Rattle.std.proofs.Common.{◌≤◌, map, take}
use Rattle.olap_base.specs.OneFact.{HoldsTimes}
use Rattle.olap_cex.specs.CexFor.{IsWay}
use Rattle.olap_cex.proofs.counting.count_ways.Given as goal

abbrev pub invariant-sources : goal.invariant-sources
invariant-sources l = record {
  few : l.ways ≤ l.source-index;
  counted : HoldsTimes (IsWay l.rows l.root.0 l.target.0) (map (λ s. s.0) (take l.source-index l.sources)) l.ways;
}
