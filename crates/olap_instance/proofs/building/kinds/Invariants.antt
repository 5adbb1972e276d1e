-- The kinds of the categories so far.
use Rattle.std.proofs.Common.{◌≡◌, take}
use Rattle.olap_instance.specs.Drafts.{numbers_in}
use Rattle.olap_instance.proofs.building.kinds.Given as goal

abbrev pub invariant-categories : goal.invariant-categories
invariant-categories l = l.numbers.items ≡ take l.c (numbers_in l.graph)
