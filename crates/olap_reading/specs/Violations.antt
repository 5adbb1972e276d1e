-- The words that report a violation.
--     violation_text   which law is broken, or that it is a constraint, and what breaks it
use Rattle.std.specs.Prelude.{ℕ, suc, List, ◌++◌, codes, slice_index}
use Rattle.std.specs.Fmt.{decimal}
use Rattle.olap_base.specs.Graph.{Graph}
use Rattle.olap_base.specs.Instance.{Instance, member_at, parents_of}
use Rattle.olap_graph.specs.Lookups.{name_of_category}
use Rattle.olap_grammar.specs.Quoting.{quoted}
use Rattle.olap_ast.specs.Violation.{Violation, Violation.NoEdge, Violation.NoParent, Violation.SameCategory, Violation.TwoAncestors, Violation.Shortcut, Violation.Unmet}

-- a member's id as a string
abbrev pub id_text : Instance → ℕ → List ℕ
id_text i x = quoted (member_at i x).id

-- a member, and its parent at a place
abbrev pub parent_text : Instance → ℕ → ℕ → List ℕ
parent_text i x k = id_text i x ++ (codes " " ++ id_text i (slice_index (parents_of i x) k))

-- which law is broken, and by which members; a constraint is counted from 1
abbrev pub violation_text : Graph → Instance → Violation → List ℕ
violation_text g i (NoEdge x k) = codes "Connectivity " ++ parent_text i x k
violation_text g i (NoParent x) = codes "NoParent " ++ id_text i x
violation_text g i (SameCategory x) = codes "Stratification " ++ id_text i x
violation_text g i (TwoAncestors x c) =
    codes "Partitioning " ++ (id_text i x ++ (codes " " ++ name_of_category g c))
violation_text g i (Shortcut x k) = codes "Shortcut " ++ parent_text i x k
violation_text g i (Unmet k x) = codes "Constraint " ++ (decimal (suc k) ++ (codes " " ++ id_text i x))
