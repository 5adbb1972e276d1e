-- The places so far.
use Rattle.olap_bits.specs.Sets.{members}
use Rattle.olap_check.specs.Blocks.{Collects}
use Rattle.olap_check.proofs.places.all_places.Given as goal

abbrev pub invariant-places : goal.invariant-places
invariant-places l = Collects l.k (λ k. Unit {0}) (members l.places)
