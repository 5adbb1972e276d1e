-- The masks so far are judged, and the others stand.
use Rattle.std.proofs.Common.{◌≡◌, ◌≢◌, ◌<◌, ◌≤◌, ◌↔◌, ℕ, false, get_or, length}
use Rattle.olap_nav.specs.{Choices.MayServe, Patterns.ways_in}
use Rattle.olap_nav.proofs.refuting.refute.Given as goal

abbrev pub invariant-masks : goal.invariant-masks
invariant-masks l = record {
  judged : (m : ℕ) → m < l.m → MayServe l.may_serve m
      ↔ (MayServe l.initial.may_serve m × (m ≢ l.asked) × (ways_in l.pattern m ≡ 1));
  count : length l.may_serve ≡ length l.initial.may_serve;
  kept : (m : ℕ) → l.m ≤ m → get_or l.may_serve m false ≡ get_or l.initial.may_serve m false;
}
