-- The places so far at which what is asked is so.
use Rattle.std.proofs.Common.{get_or}
use Rattle.olap_bits.specs.Sets.{members}
use Rattle.olap_check.specs.{Blocks.Collects, Seen.IsSo}
use Rattle.olap_check.proofs.blocks.Block.places_of.Given as goal

abbrev pub invariant-places : goal.invariant-places
invariant-places l =
    Collects l.k (λ k. IsSo l.self.instance.now l.asked (get_or l.self.part.now k 0)) (members l.truths)
