-- No name of the category was decided so far.
use Rattle.std.proofs.Common.{◌≡◌, length, map}
use Rattle.olap_proof.specs.{KeptParts.naming_kept, Places.index_of}
use Rattle.olap_proof.proofs.places.index_in.Given as goal

abbrev pub invariant-namings : goal.invariant-namings
invariant-namings l = index_of (map naming_kept l.fn.namings) l.c.0 ≡ index_of (map naming_kept l.left) l.c.0

abbrev pub decreases-namings : goal.decreases-namings
decreases-namings l = length l.left
