-- What is listed: all frozen dimensions, and what an audit finds.
--     Lists           the lines of some frozen dimensions with a root
--     ListsFrozen     of all
--     HasTooMany      there are more than may be listed
--     ListsFindings   the lines of all findings
use Rattle.std.specs.Prelude.{◌≡◌, ℕ, ◌≤◌, List, ◌∷◌, ◌++◌, codes, flat_map, length}
use Rattle.std.specs.Fmt.{decimal}
use Rattle.olap_ast.specs.Findings.{AreFindings, Finding, Finding.Unsatisfiable, Finding.Redundant, Finding.Unused}
use Rattle.olap_ast.specs.Formula.{Formula.Truth}
use Rattle.olap_ast.specs.Frozen.{Candidates, Frozen}
use Rattle.olap_ast.specs.Schema.{Schema}
use Rattle.olap_base.specs.Bytes.{space}
use Rattle.olap_base.specs.Graph.{Graph}
use Rattle.olap_base.specs.Limits.{most_frozen}
use Rattle.olap_cex.specs.FrozenText.{frozen_text}
use Rattle.olap_dimsat.specs.Listed.{AreAllFrozen, AreMoreThan}
use Rattle.olap_graph.specs.Lookups.{edge_at, name_of_category}
use Rattle.olap_order.specs.Outputs.{line}

-- the lines of these frozen dimensions with root c, and how many they are
pub record Lists (Are : Candidates → List Frozen → Type 0) (s : Schema) (c : ℕ) (bytes : List ℕ) : Type 0 where
  pub candidates : Candidates
  pub frozen : List Frozen
  pub all : Are candidates frozen
  pub few : length frozen ≤ most_frozen
  pub text : bytes ≡ flat_map (frozen_text s.graph candidates c) frozen
      ++ line (codes "count " ++ decimal (length frozen))

-- of all frozen dimensions with root c, by their codes
abbrev pub ListsFrozen : Schema → ℕ → List ℕ → Type 0
ListsFrozen s c = Lists (AreAllFrozen s Truth c) s c

-- there are more frozen dimensions with root c than may be listed
abbrev pub HasTooMany : Schema → ℕ → Type 0
HasTooMany s c = (k : Candidates) × AreMoreThan most_frozen s Truth c k

-- the line of a finding
abbrev pub finding_text : Graph → Finding → List ℕ
finding_text g (Unsatisfiable c) = line (codes "unsatisfiable " ++ name_of_category g c)
finding_text g (Redundant n) = line (codes "redundant " ++ decimal n)
finding_text g (Unused e) =
    line (codes "unused "
    ++ (name_of_category g (edge_at g e).child ++ space ∷ name_of_category g (edge_at g e).parent))

-- the line of each finding, and how many they are
pub record ListsFindings (s : Schema) (bytes : List ℕ) : Type 0 where
  pub findings : List Finding
  pub are_findings : AreFindings s findings
  pub text : bytes ≡ flat_map (finding_text s.graph) findings ++ line (codes "findings " ++ decimal (length findings))
