-- The lots so far are joined.
use Rattle.std.{proofs.Common.{◌≡◌, get_or, take}, specs.Prelude.All}
use Rattle.olap_delta.specs.{Changing.AreStorable, Joining.{IsJoinedIn, IsOnce}, Lots.lots_at}
use Rattle.olap_delta.proofs.changes.Change.join_in.Given as goal

abbrev pub invariant-lots : goal.invariant-lots
invariant-lots l = record {
  instance : l.table.instance ≡ l.fn.table.instance;
  categories : l.table.categories ≡ l.fn.table.categories;
  storable : AreStorable l.table;
  once : All (λ m. IsOnce l.fn.table.instance (get_or l.fn.table.categories l.k 0) m.member.0)
      (take l.lot-index l.lots);
  joined : IsJoinedIn l.self (get_or l.fn.table.categories l.k 0)
      (lots_at l.fn.table.instance (take l.lot-index l.lots)) l.fn.table l.table;
}
