-- The categories so far have their slots, and the rows before are as they were.
use Rattle.std.proofs.Common.{◌≡◌, ℕ, ◌<◌, get_or}
use Rattle.olap_legal.specs.Slots.{IsListing}
use Rattle.olap_legal.proofs.slots.list_reached.Given as goal

abbrev pub invariant-categories : goal.invariant-categories
invariant-categories l = record {
  listing : IsListing l.graph l.c l.categories l.d l.count l.base l.slots l.order;
  slots : (k : ℕ) → k < l.base → get_or l.slots k 0 ≡ get_or l.fn.slots k 0;
  order : (k : ℕ) → k < l.base → get_or l.order k 0 ≡ get_or l.fn.order k 0;
}
