-- The categories so far have slots for what they reach.
use Rattle.olap_legal.specs.Slots.{AreListed}
use Rattle.olap_legal.proofs.slots.Slots.of.Given as goal

abbrev pub invariant-categories : goal.invariant-categories
invariant-categories l = AreListed l.graph l.categories l.c l.slots.items l.order.items l.counts.items
