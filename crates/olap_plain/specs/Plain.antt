-- The definitions' values that the plain structs stand for.
--     member_of, instance_of     plain members
--     fact_of, facts_of          plain facts
--     row_of, rows_of, as_row    plain rows
--     IsBounded                  a sum that fits
--     extended                   a row with one more value
use Rattle.std.specs.Prelude.{ℕ, ◌*◌, ◌^◌, List, map, ℤ, pos, neg_ℤ, ◌≤ℤ◌, Option, Some, None}
use Rattle.olap_base.specs.Instance.{Instance, Member}
use Rattle.olap_base.specs.Summaries.{joined, of_value}
use Rattle.olap_base.specs.Views.{Fact, Row}
use Rattle.olap_plain.specs.declared.viewing.PlainMember.{PlainMember}
use Rattle.olap_plain.specs.declared.viewing.PlainFact.{PlainFact}
use Rattle.olap_plain.specs.declared.viewing.PlainRow.{PlainRow}

-- the member of a plain one
abbrev pub member_of : PlainMember → Member
member_of m = record { id = m.id.items; category = m.category; name = m.name.items; parents = m.parents.items }

-- the instance of plain members
abbrev pub instance_of : List PlainMember → Instance
instance_of ms = map member_of ms

-- the fact of a plain one
abbrev pub fact_of : PlainFact → Fact ℕ
fact_of f = record { at = f.member; value = f.value }

-- the facts of plain ones
abbrev pub facts_of : List PlainFact → List (Fact ℕ)
facts_of fs = map fact_of fs

-- the row of a plain one
abbrev pub row_of : PlainRow → Row ℕ
row_of r = record {
  at = r.member;
  summary = record { count = r.count; sum = r.sum; least = r.least; greatest = r.greatest };
}

-- the rows of plain ones
abbrev pub rows_of : List PlainRow → List (Row ℕ)
rows_of rs = map row_of rs

-- the row of a plain one, if there is one
abbrev pub as_row : Option PlainRow → Option (Row ℕ)
as_row None = None
as_row (Some r) = Some (row_of r)

-- a sum of that many values of 64 bits
abbrev pub IsBounded : ℤ → ℕ → Type 0
IsBounded z n = (neg_ℤ (pos (n * 2 ^ 63)) ≤ℤ z) × (z ≤ℤ pos (n * 2 ^ 63))

-- the row of y with one more value
abbrev pub extended : ℕ → Option (Row ℕ) → ℤ → Row ℕ
extended y None v = record { at = y; summary = of_value v }
extended y (Some r) v = record { at = y; summary = joined r.summary (of_value v) }
