-- What holds of every printed instance: it is read back.
--     IsReadBack                       the text of the instance stands for it
--     PrintedInstancesAreRead          so it is of each instance that a text may stand for
--     PrintedFrozenDimensionsAreRead   and of the instance of each frozen dimension with short names
use Rattle.std.specs.Prelude.{◌≡◌, ◌≤◌, ℕ, List, Ok, IsTrue, length}
use Rattle.std.specs.Str.{is_utf8}
use Rattle.olap_ast.specs.Constants.{IsConstant}
use Rattle.olap_ast.specs.Formula.{Formula, Constant.AText}
use Rattle.olap_ast.specs.Frozen.{Candidates, Frozen, IsFrozen, thawed}
use Rattle.olap_ast.specs.Schema.{Schema}
use Rattle.olap_ast.specs.Valid.{IsValidSchema}
use Rattle.olap_base.specs.Graph.{Graph, IsHierarchy}
use Rattle.olap_base.specs.Instance.{Instance}
use Rattle.olap_base.specs.Limits.{most_members}
use Rattle.olap_records.specs.Records.{records_of}
use Rattle.olap_instance.specs.InstanceText.{instance_read}
use Rattle.olap_instance.specs.Laws.{IsReadFor}
use Rattle.olap_instance.specs.Members.{HasShortNames}
use Rattle.olap_instance.specs.Printing.{text_of_instance}

-- what is printed of the instance stands for it
abbrev pub IsReadBack : Graph → Instance → Type 0
IsReadBack g i = instance_read g (records_of (text_of_instance g i)) ≡ Ok i

-- an instance that keeps what every read instance keeps, with no more members than there may be, is read back
abbrev pub PrintedInstancesAreRead : Type 0
PrintedInstancesAreRead = (g : Graph) (i : Instance) → IsHierarchy g → IsReadFor g i → length i ≤ most_members
    → IsReadBack g i

-- each text that names are compared with is UTF-8
abbrev pub ConstantsAreUtf8 : Schema → Formula → Type 0
ConstantsAreUtf8 s q = (c : ℕ) (text : List ℕ) → IsConstant s q c (AText text) → IsTrue (is_utf8 text)

-- the instance of a frozen dimension of a valid schema is read back, if its names are short
abbrev pub PrintedFrozenDimensionsAreRead : Type 0
PrintedFrozenDimensionsAreRead = (s : Schema) (q : Formula) (r : ℕ) (k : Candidates) (f : Frozen) → IsValidSchema s
    → ConstantsAreUtf8 s q → IsFrozen s q r k f → HasShortNames (thawed s k r f)
    → IsReadBack s.graph (thawed s k r f)
