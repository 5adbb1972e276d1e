-- The present categories so far have members, and each has its place.
use Rattle.std.proofs.Common.{◌≡◌, ℕ, ◌-◌, ◌<◌, [], None, length, get_or}
use Rattle.olap_cex.specs.{FoundFor.{found_draft, found_edges}, Present.place_or_all}
use Rattle.olap_instance.specs.DraftInside.{number_of}
use Rattle.olap_cex.proofs.thawing.add_members.Given as goal

abbrev pub invariant-categories : goal.invariant-categories
invariant-categories l = record {
  drafted : l.builder ≡ found_draft l.graph l.found (l.c - 1) [];
  count : length l.places.items ≡ l.c;
  places : (c : ℕ) → c < l.c
      → number_of (get_or l.places.items c None) ≡ place_or_all l.found.frozen.root.0 (found_edges l.graph l.found) c;
}
