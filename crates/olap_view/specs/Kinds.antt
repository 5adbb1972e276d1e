-- The names under which faults are reported.
use Rattle.std.specs.Prelude.{ℕ, List, codes}
use Rattle.olap_view.specs.declared.kinds.StoreKind.{StoreKind}
use Rattle.olap_view.specs.declared.kinds.StoreKind.TheVariants as kind

-- a fault's name, as it is printed
abbrev pub name_of_kind : StoreKind → List ℕ
name_of_kind kind.BadHeader = codes "BadHeader"
name_of_kind kind.FieldCount = codes "FieldCount"
name_of_kind kind.UnknownCategory = codes "UnknownCategory"
name_of_kind kind.UnknownMember = codes "UnknownMember"
name_of_kind kind.WrongCategory = codes "WrongCategory"
name_of_kind kind.BadNumber = codes "BadNumber"
name_of_kind kind.DuplicateView = codes "DuplicateView"
name_of_kind kind.DuplicateRow = codes "DuplicateRow"
name_of_kind kind.TooManyViews = codes "TooManyViews"
name_of_kind kind.NoView = codes "NoView"
