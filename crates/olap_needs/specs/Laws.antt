-- The laws of what must be added.
use Rattle.std.specs.Prelude.{◌≡◌, ◌↔◌, ◌≤◌, ℕ, List, [], ◌++◌, All, Contains, Ok, length}
use Rattle.olap_base.specs.Graph.{IsBottom, IsCategory}
use Rattle.olap_base.specs.Instance.{Instance, IsMemberOf}
use Rattle.olap_base.specs.Views.{IsFactTable, ViewsAgree, members}
use Rattle.olap_ast.specs.Findings.{IsUnsatisfiable}
use Rattle.olap_ast.specs.Formula.{Holds}
use Rattle.olap_ast.specs.Schema.{Constraint, IsLegal, Meets, Schema}
use Rattle.olap_ast.specs.Summarizable.{IsSummarizable}
use Rattle.olap_ast.specs.Valid.{IsQuestion}
use Rattle.olap_base.specs.Limits.{most_words}
use Rattle.olap_schema.specs.Readable.{IsReadable}
use Rattle.olap_schema_text.specs.Judging.{schema_read}
use Rattle.olap_schema_text.specs.Printing.{schema_text}
use Rattle.olap_needs.specs.Needs.{AreEmptied, AreNeeded, HasRoom, by_one, need, needs_text, with_needs}

-- the instance meets each of the constraints
abbrev pub MeetsNeeds : ℕ → List ℕ → List ℕ → Instance → Type 0
MeetsNeeds c sources bs i = (b : ℕ) → Contains bs b → Meets i (need c sources b)

-- with the constraints added, the target is summarizable
abbrev pub NeedsSuffice : Type 0
NeedsSuffice = (s : Schema) (c : ℕ) (sources bs : List ℕ) → AreNeeded s c sources bs
    → IsSummarizable (with_needs s c sources bs) c sources

-- a legal instance meets them exactly if on it, for every fact table, the view from the sources' views is the direct
-- view
abbrev pub NeedsAreExact : Type 0
NeedsAreExact = (s : Schema) (c : ℕ) (sources bs : List ℕ) (i : Instance) → AreNeeded s c sources bs → IsLegal s i
    → MeetsNeeds c sources bs i ↔ ViewsAgree (IsFactTable s.graph i) (members i) c sources

-- the instances that are legal with them are the legal ones that meet them
abbrev pub NeedsAreAdded : Type 0
NeedsAreAdded = (s : Schema) (c : ℕ) (sources bs : List ℕ) (i : Instance)
    → IsLegal (with_needs s c sources bs) i ↔ (IsLegal s i × MeetsNeeds c sources bs i)

-- they are the weakest: whatever constraints make the target summarizable, an instance that is legal with those is
-- legal with these
abbrev pub NeedsAreWeakest : Type 0
NeedsAreWeakest = (s : Schema) (c : ℕ) (sources bs : List ℕ) (others : List Constraint) → AreNeeded s c sources bs
    → IsSummarizable (record s { constraints = s.constraints ++ others }) c sources
    → (i : Instance) → IsLegal (record s { constraints = s.constraints ++ others }) i
    → IsLegal (with_needs s c sources bs) i

-- none are needed exactly if the target is summarizable as it is
abbrev pub NoneNeeded : Type 0
NoneNeeded = (s : Schema) (c : ℕ) (sources bs : List ℕ) → AreNeeded s c sources bs
    → (bs ≡ []) ↔ IsSummarizable s c sources

-- there is one such list at most
abbrev pub NeedsAreOne : Type 0
NeedsAreOne = (s : Schema) (c : ℕ) (sources bs others : List ℕ) → AreNeeded s c sources bs
    → AreNeeded s c sources others → bs ≡ others

-- and one of those that they leave without members
abbrev pub EmptiedAreOne : Type 0
EmptiedAreOne = (s : Schema) (c : ℕ) (sources bs some others : List ℕ) → AreEmptied s c sources bs some
    → AreEmptied s c sources bs others → some ≡ others

-- within the limits the schema with them is valid, and its constants can stand in a line
abbrev pub NeedsStayReadable : Type 0
NeedsStayReadable = (s : Schema) (c : ℕ) (sources bs : List ℕ) → IsReadable s → IsCategory s.graph c
    → All (IsCategory s.graph) sources → AreNeeded s c sources bs → HasRoom (with_needs s c sources bs)
    → IsReadable (with_needs s c sources bs)

-- each by itself keeps all limits, whatever sources a command line can name
abbrev pub EachNeedIsQuestion : Type 0
EachNeedIsQuestion = (s : Schema) (c : ℕ) (sources bs : List ℕ) → IsReadable s → IsCategory s.graph c
    → All (IsCategory s.graph) sources → length sources ≤ most_words → AreNeeded s c sources bs
    → (b : ℕ) → Contains bs b → IsQuestion s b (by_one c sources)

-- with them a bottom category can't have a member exactly if no member of it, in an instance that is legal without
-- them, reaches the target by exactly one of the sources, or not at all
abbrev pub NeedsLeaveMembers : Type 0
NeedsLeaveMembers = (s : Schema) (c : ℕ) (sources bs : List ℕ) → AreNeeded s c sources bs
    → (b : ℕ) → IsBottom s.graph b
    → IsUnsatisfiable (with_needs s c sources bs) b ↔ ((i : Instance) → IsLegal s i → (x : ℕ) → IsMemberOf i b x
    → Holds i x (by_one c sources) → ⊥)

-- the schema's canonical text with the lines after it is the canonical text of the schema with the constraints, and
-- within the limits it stands for that schema
abbrev pub NeedsAreRead : Type 0
NeedsAreRead = (s : Schema) (c : ℕ) (sources bs : List ℕ) → IsReadable s → IsCategory s.graph c
    → All (IsCategory s.graph) sources → AreNeeded s c sources bs → HasRoom (with_needs s c sources bs)
    → (schema_text s ++ needs_text s.graph c sources bs ≡ schema_text (with_needs s c sources bs))
    × (schema_read (schema_text s ++ needs_text s.graph c sources bs) ≡ Ok (with_needs s c sources bs))
