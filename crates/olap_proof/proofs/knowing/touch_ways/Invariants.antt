-- The set has the ends of the ways from the categories so far.
use Rattle.std.proofs.Common.{ℕ, ◌↔◌}
use Rattle.olap_bits.specs.Sets.{members}
use Rattle.olap_proof.specs.{Seen.LeadsHere, Walking.{IsIn, TouchedFrom}}
use Rattle.olap_proof.proofs.knowing.touch_ways.Given as goal

abbrev pub invariant-categories : goal.invariant-categories
invariant-categories l = (x : ℕ) → IsIn (members l.set) x
    ↔ TouchedFrom (members l.initial.set) (LeadsHere l.place.ways) l.c x
