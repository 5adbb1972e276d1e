-- The tally stands for the facts so far.
use Rattle.std.proofs.Common.{◌≡◌, ℕ, ◌+◌, ◌++◌, List, map, take}
use Rattle.olap_base.specs.Views.{Fact}
use Rattle.olap_facts.specs.Seen.{fact_of}
use Rattle.olap_view.specs.Tallies.{StandsFor}
use Rattle.olap_view.proofs.tallies.Tally.add_all.Given as goal

abbrev pub invariant-facts : goal.invariant-facts
invariant-facts l = record {
  instance : l.self.instance ≡ l.fn.self.instance;
  categories : l.self.categories ≡ l.fn.self.categories;
  added : l.self.added ≡ l.fn.self.added + l.fact-index;
  stands : (before : List (Fact ℕ)) → StandsFor l.fn.self before
      → StandsFor l.self (before ++ map fact_of (take l.fact-index l.facts));
}
