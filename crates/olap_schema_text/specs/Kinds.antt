-- The names of the faults, as the program has them.
--     name_of_kind    what a fault is called
--     IsRefusedAs     a refusal tells the fault of this name
--     IsFaultOf       the same of a fault at its place in a text
use Rattle.std.specs.Prelude.{◌≡◌, ℕ, List, Err, Result, codes}
use Rattle.olap_base.specs.Refusing.{IsFor}
use Rattle.olap_base.specs.declared.refusals.Fault.{Fault}
use Rattle.olap_base.specs.declared.refusals.Refusal.{Refusal}
use Rattle.olap_schema_text.specs.declared.kinds.SchemaKind.{SchemaKind}
use Rattle.olap_schema_text.specs.declared.kinds.SchemaKind.TheVariants as kind

-- what a fault is called
abbrev pub name_of_kind : SchemaKind → List ℕ
name_of_kind kind.BadByte = codes "BadByte"
name_of_kind kind.BadForm = codes "BadForm"
name_of_kind kind.DuplicateCategory = codes "DuplicateCategory"
name_of_kind kind.UnknownCategory = codes "UnknownCategory"
name_of_kind kind.SelfEdge = codes "SelfEdge"
name_of_kind kind.DuplicateEdge = codes "DuplicateEdge"
name_of_kind kind.EdgeFromAll = codes "EdgeFromAll"
name_of_kind kind.MixedRoot = codes "MixedRoot"
name_of_kind kind.NotAnEdge = codes "NotAnEdge"
name_of_kind kind.RepeatedCategory = codes "RepeatedCategory"
name_of_kind kind.RootIsAll = codes "RootIsAll"
name_of_kind kind.TooManyCategories = codes "TooManyCategories"
name_of_kind kind.TooManyEdges = codes "TooManyEdges"
name_of_kind kind.TooManyConstraints = codes "TooManyConstraints"
name_of_kind kind.TooManyNodes = codes "TooManyNodes"
name_of_kind kind.TooDeep = codes "TooDeep"
name_of_kind kind.TooManyConstants = codes "TooManyConstants"
name_of_kind kind.TextTooLong = codes "TextTooLong"
name_of_kind kind.NoWayToAll = codes "NoWayToAll"
name_of_kind kind.WrongNames = codes "WrongNames"
name_of_kind kind.BadNumber = codes "BadNumber"

-- the refusal tells the fault that a text has by its definition, or is out of memory
abbrev pub IsRefusedAs : {T : Type 0} → Refusal SchemaKind → Result T (List ℕ) → Type 0
IsRefusedAs e read = IsFor (λ k. read ≡ Err (name_of_kind k)) e

-- the same of a fault at its place
abbrev pub IsFaultOf : {T : Type 0} → Refusal (Fault SchemaKind) → Result T (Fault (List ℕ)) → Type 0
IsFaultOf e read = IsFor (λ f. read ≡ Err (record { at = f.at; kind = name_of_kind f.kind })) e
