-- The present categories so far are counted.
use Rattle.std.proofs.Common.{◌≡◌, ◌-◌, length}
use Rattle.olap_cex.specs.{FoundFor.found_edges, Present.first_present}
use Rattle.olap_cex.proofs.counterexamples.place_of.Given as goal

abbrev pub invariant-categories : goal.invariant-categories
invariant-categories l =
    l.place ≡ length (first_present l.found.frozen.root.0 (found_edges l.graph l.found) (l.d - 1))
