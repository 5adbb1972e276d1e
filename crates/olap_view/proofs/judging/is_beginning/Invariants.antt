-- All fields after the category are empty where those that are left are.
use Rattle.std.{proofs.Common.{◌≡◌, drop, length}, specs.List.list_all, specs.Prelude.◌==◌}
use Rattle.olap_view.specs.StoreText.{is_beginning}
use Rattle.olap_view.proofs.judging.is_beginning.Given as goal

abbrev pub invariant-fields : goal.invariant-fields
invariant-fields l = is_beginning l.rows.row ≡ list_all (λ f. length f == 0) (drop l.k l.rows.row)
