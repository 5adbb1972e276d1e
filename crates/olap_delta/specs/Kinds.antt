-- The names under which faults are reported.
--     name_of_kind           that of a fact's fault
--     name_of_change_kind    that of a fault of a text or of a fact
use Rattle.std.specs.Prelude.{ℕ, List, codes}
use Rattle.olap_facts.specs.Kinds.{name_of_kind as fact_kind}
use Rattle.olap_delta.specs.declared.kinds.ChangeKind.{ChangeKind}
use Rattle.olap_delta.specs.declared.kinds.ChangeKind.TheVariants as change
use Rattle.olap_delta.specs.declared.kinds.DeltaKind.{DeltaKind}
use Rattle.olap_delta.specs.declared.kinds.DeltaKind.TheVariants as kind

-- a fact's fault, as it is printed
abbrev pub name_of_kind : DeltaKind → List ℕ
name_of_kind kind.Full = codes "Full"
name_of_kind kind.Bound = codes "Bound"
name_of_kind kind.NoRow = codes "NoRow"
name_of_kind kind.Outside = codes "Outside"
name_of_kind kind.Extreme = codes "Extreme"
name_of_kind kind.Short = codes "Short"

-- a fault of a text or of a fact, as it is printed
abbrev pub name_of_change_kind : ChangeKind → List ℕ
name_of_change_kind (change.Text k) = fact_kind k
name_of_change_kind (change.Fact k) = name_of_kind k
