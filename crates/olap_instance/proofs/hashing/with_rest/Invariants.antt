-- The number has the bytes so far.
use Rattle.std.{proofs.Common.{◌≡◌, take}, specs.List.fold}
use Rattle.olap_instance.specs.Hashing.{with_byte}
use Rattle.olap_instance.proofs.hashing.with_rest.Given as goal

abbrev pub invariant-bytes : goal.invariant-bytes
invariant-bytes l = l.number ≡ fold with_byte l.count (take l.byte-index l.rest)
