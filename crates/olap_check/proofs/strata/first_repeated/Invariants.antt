-- The first member of a category so far that repeats.
use Rattle.olap_check.specs.Strata.{IsFirstOf}
use Rattle.olap_check.proofs.strata.first_repeated.Given as goal

abbrev pub invariant-categories : goal.invariant-categories
invariant-categories l = IsFirstOf l.instance l.category l.first
