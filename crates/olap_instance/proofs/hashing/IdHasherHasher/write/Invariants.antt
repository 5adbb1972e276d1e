-- What is left to write, at the value so far, comes to what all the bytes come to.
use Rattle.std.proofs.Common.{◌≡◌, length}
use Rattle.olap_instance.specs.Hashing.{value_after}
use Rattle.olap_instance.proofs.hashing.IdHasherHasher.write.Given as goal

abbrev pub invariant-steps : goal.invariant-steps
invariant-steps l =
    value_after (length l.bytes) l.self.point l.value l.rest
    ≡ value_after (length l.bytes) l.fn.self.point l.fn.self.value l.bytes

abbrev pub decreases-steps : goal.decreases-steps
decreases-steps l = length l.rest
