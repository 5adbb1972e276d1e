-- The rows of the members so far.
use Rattle.std.{proofs.Common.◌≡◌, specs.Prelude.vec_len}
use Rattle.olap_legal.specs.Tables.{IsTable}
use Rattle.olap_legal.proofs.ancestors.table_by_walks.Given as goal

abbrev pub invariant-members : goal.invariant-members
invariant-members l = record {
  table : IsTable l.instance l.categories l.x l.table;
  row : vec_len l.row ≡ l.categories;
}
