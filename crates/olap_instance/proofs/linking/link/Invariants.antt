-- The pieces so far name members, whose stamps are set.
use Rattle.std.proofs.Common.{◌≡◌, ◌+◌, ◌++◌, ◌∷◌, [], List, ℕ, Some, length, map}
use Rattle.olap_base.{proofs.PiecesLeft.size_left, specs.Naming.place_of, specs.declared.ids.MemberId.MemberId}
use Rattle.olap_records.proofs.Seeing.{HasSeen}
use Rattle.olap_instance.specs.InstanceText.{piece_fault, pieces_of}
use Rattle.olap_instance.specs.Passes.{AreBelow, AreStamped, ids_in, numbers_of, pieces_left}
use Rattle.olap_instance.proofs.linking.link.Given as goal

abbrev pub invariant-pieces : goal.invariant-pieces
invariant-pieces l = record {
  before : List (List ℕ);
  found : List MemberId;
  lists : l.parents ≡ l.fn.parents ++ found ∷ [];
  seen : HasSeen (piece_fault (ids_in l.roster)) (pieces_of l.field) before (pieces_left l.left);
  places : map (λ p. place_of p (ids_in l.roster)) before ≡ map Some (numbers_of found);
  as_many : length l.stamps ≡ length l.roster;
  stamped : AreStamped l.stamps (l.child + 1) (numbers_of found);
  below : AreBelow l.stamps (l.child + 2);
}

abbrev pub decreases-pieces : goal.decreases-pieces
decreases-pieces l = size_left l.left
