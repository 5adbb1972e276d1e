-- The names under which faults are reported.
use Rattle.std.specs.Prelude.{ℕ, List, codes}
use Rattle.olap_instance.specs.declared.refusals.InstanceKind.{InstanceKind}
use Rattle.olap_instance.specs.declared.refusals.InstanceKind.TheVariants as kind

-- a fault's name, as it is printed
abbrev pub name_of_kind : InstanceKind → List ℕ
name_of_kind kind.BadHeader = codes "BadHeader"
name_of_kind kind.FieldCount = codes "FieldCount"
name_of_kind kind.BadUtf8 = codes "BadUtf8"
name_of_kind kind.BadId = codes "BadId"
name_of_kind kind.DuplicateId = codes "DuplicateId"
name_of_kind kind.UnknownCategory = codes "UnknownCategory"
name_of_kind kind.RowForAll = codes "RowForAll"
name_of_kind kind.UnknownParent = codes "UnknownParent"
name_of_kind kind.DuplicateParent = codes "DuplicateParent"
name_of_kind kind.TooManyMembers = codes "TooManyMembers"
name_of_kind kind.TextTooLong = codes "TextTooLong"
name_of_kind kind.BadNumber = codes "BadNumber"
