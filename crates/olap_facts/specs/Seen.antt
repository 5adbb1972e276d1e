-- The fact table of the definitions that a `Facts` stands for.
--     fact_of    a fact
--     facts_of   a table
use Rattle.std.specs.Prelude.{ℕ, List, map}
use Rattle.olap_base.specs.Views.{Fact}
use Rattle.olap_facts.specs.declared.tables.Fact as told
use Rattle.olap_facts.specs.declared.tables.Facts.{Facts}

-- the fact that a struct stands for
abbrev pub fact_of : told.Fact → Fact ℕ
fact_of f = record { at = f.member.0; value = f.value }

-- the facts of a table, in order
abbrev pub facts_of : Facts → List (Fact ℕ)
facts_of facts = map fact_of facts.rows
