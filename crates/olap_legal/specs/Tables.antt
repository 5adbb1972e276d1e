-- The table of ancestors: what each member reaches, by category.
--     IsTable        the first members have their rows
--     HasTable       the table is that of the whole instance
--     IsFirstSplit   the first member that reaches two members of one category
use Rattle.std.specs.Prelude.{◌≡◌, ◌≢◌, ℕ, ◌<◌, ◌↔◌, length, true}
use Rattle.olap_base.specs.Instance.{Instance, category_of}
use Rattle.olap_base.specs.Reaching.{reaches}
use Rattle.olap_legal.specs.Laying.{IsLaid, cell}
use Rattle.olap_legal.specs.Rows.{none, IsBounded, Splits}
use Rattle.olap_legal.specs.declared.tables.Table.{Table}

-- the first k members have their rows
pub record IsTable (i : Instance) (n k : ℕ) (t : Table) : Type 0 where
  pub laid : IsLaid i n t
  pub own : (x d : ℕ) → x < k → d < n → cell i n t x d ≢ none
      → (cell i n t x d < length i) × (category_of i (cell i n t x d) ≡ d)
  pub exact : (x y : ℕ) → x < k → y < length i → (cell i n t x (category_of i y) ≡ y) ↔ (reaches i x y ≡ true)

-- x reaches two members of one category, and no member before it does
pub record IsFirstSplit (i : Instance) (n x : ℕ) : Type 0 where
  pub inside : x < length i
  pub splits : Splits i x
  pub before : (w : ℕ) → w < x → Splits i w → ⊥

-- the table is that of the whole instance
pub record HasTable (i : Instance) (n : ℕ) (t : Table) : Type 0 where
  pub bounded : IsBounded i n
  pub table : IsTable i n (length i) t
