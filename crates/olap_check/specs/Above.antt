-- The members that one member reaches, by category, as the table has them.
--     IsAbove      the table is that of the instance, and x is a member
--     is_present   x reaches a member of the category
use Rattle.std.specs.Prelude.{ℕ, ◌<◌, ◌&&◌, not, Bool, nat_eq, nat_lt, length}
use Rattle.olap_base.specs.Instance.{Instance}
use Rattle.olap_legal.specs.Laying.{cell}
use Rattle.olap_legal.specs.Rows.{none, IsBounded}
use Rattle.olap_legal.specs.Tables.{IsTable}
use Rattle.olap_legal.specs.declared.tables.Table.{Table}

-- the table is that of the instance, and x is a member
pub record IsAbove (i : Instance) (n x : ℕ) (t : Table) : Type 0 where
  pub inside : x < length i
  pub bounded : IsBounded i n
  pub table : IsTable i n (length i) t

-- the table has a member of the category for x
abbrev pub is_present : Instance → ℕ → Table → ℕ → ℕ → Bool
is_present i n t x c = nat_lt c n && not (nat_eq (cell i n t x c) none)
