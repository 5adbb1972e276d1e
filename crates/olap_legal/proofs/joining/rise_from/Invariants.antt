-- The parents so far are joined.
use Rattle.std.proofs.Common.{◌≡◌, length, take}
use Rattle.olap_base.specs.Instance.{parents_of}
use Rattle.olap_legal.specs.Joining.{AreJoined}
use Rattle.olap_legal.proofs.joining.rise_from.Given as goal

abbrev pub invariant-parents : goal.invariant-parents
invariant-parents l = record {
  size : length l.row ≡ l.categories;
  joined : AreJoined l.instance (take l.p-index (parents_of l.instance l.z)) l.row;
}
