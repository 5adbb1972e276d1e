-- The lots are those of the facts so far.
use Rattle.std.proofs.Common.{◌≡◌, length}
use Rattle.olap_delta.{proofs.ListedLemmas.so_far, specs.Lots.{AreLots, StandFor}}
use Rattle.olap_delta.proofs.storing.changed.Given as goal

abbrev pub invariant-facts : goal.invariant-facts
invariant-facts l = record {
  places : length l.lots.places.items ≡ length l.legal;
  lots : AreLots l.lots;
  stand : StandFor l.legal (so_far l.fact-items l.fact-index) l.lots;
}
