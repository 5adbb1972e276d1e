-- The cheapest of the masks so far.
use Rattle.olap_nav.specs.Choices.{IsCheapest}
use Rattle.olap_view.specs.Seen.{views_of}
use Rattle.olap_nav.proofs.planning.cheapest.Given as goal

abbrev pub invariant-masks : goal.invariant-masks
invariant-masks l = IsCheapest (views_of l.store) l.may_serve l.m l.best
