-- What is marked is closed, and no member of the category so far repeats.
use Rattle.std.proofs.Common.{◌≡◌, ◌<◌, ℕ}
use Rattle.olap_base.specs.Instance.{category_of}
use Rattle.olap_check.specs.Strata.{IsClosed, HasNoneAbove}
use Rattle.olap_check.proofs.strata.first_in.Given as goal

abbrev pub invariant-members : goal.invariant-members
invariant-members l = record {
  closed : IsClosed l.instance l.category l.seen.items;
  before : (w : ℕ) → w < l.x → category_of l.instance w ≡ l.category → HasNoneAbove l.instance l.category w;
}
