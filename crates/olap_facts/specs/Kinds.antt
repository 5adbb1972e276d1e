-- The names under which faults are reported.
use Rattle.std.specs.Prelude.{ℕ, List, codes}
use Rattle.olap_facts.specs.declared.kinds.FactKind.{FactKind}
use Rattle.olap_facts.specs.declared.kinds.FactKind.TheVariants as kind

-- a fault's name, as it is printed
abbrev pub name_of_kind : FactKind → List ℕ
name_of_kind kind.BadHeader = codes "BadHeader"
name_of_kind kind.FieldCount = codes "FieldCount"
name_of_kind kind.UnknownMember = codes "UnknownMember"
name_of_kind kind.NotBottom = codes "NotBottom"
name_of_kind kind.BadNumber = codes "BadNumber"
name_of_kind kind.TooManyFacts = codes "TooManyFacts"
