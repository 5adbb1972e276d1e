-- The ways so far, and those that are left.
use Rattle.std.proofs.Common.{◌≡◌, ◌+◌, ◌≤◌, drop}
use Rattle.olap_nav.specs.Patterns.{ways_from, ways_in}
use Rattle.olap_nav.proofs.refuting.ways.Given as goal

abbrev pub invariant-views : goal.invariant-views
invariant-views l = record {
  whole : l.ways + ways_from l.k (drop l.k l.pattern) l.mask ≡ ways_in l.pattern l.mask;
  few : l.ways ≤ l.k;
}
