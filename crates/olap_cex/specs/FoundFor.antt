-- What must be known of a frozen dimension that was found.
--     IsFoundFor    it is a frozen dimension of a schema with that graph, whose constants are UTF-8
use Rattle.std.specs.Prelude.{ℕ, List, IsTrue}
use Rattle.std.specs.Str.{is_utf8}
use Rattle.olap_ast.specs.Constants.{IsConstant}
use Rattle.olap_ast.specs.Formula.{Formula, Constant.AText}
use Rattle.olap_ast.specs.Frozen.{AreCandidates, IsFrozen, chosen, instance_of, name_in}
use Rattle.olap_ast.specs.Schema.{Constraint}
use Rattle.olap_base.specs.Graph.{Edge, Graph, IsCategory}
use Rattle.olap_base.specs.Instance.{Instance}
use Rattle.olap_base.specs.Above.{place_in}
use Rattle.olap_ast.specs.Frozen as choice
use Rattle.olap_frozen.specs.declared.founding.Found.{Found}
use Rattle.olap_frozen.specs.LeastFound.{frozen_of}
use Rattle.olap_frozen.specs.Leaves.{IsSized}
use Rattle.olap_instance.specs.Drafts.{Draft}
use Rattle.olap_names.specs.Names.{candidates_of, with_graph}
use Rattle.olap_cex.specs.Present.{drafted}

-- names are there for its indexes, and with some constraints, for some question, it is a frozen dimension
pub record IsFoundFor (g : Graph) (found : Found) : Type 0 where
  pub sized : IsSized g found.candidates found.frozen.edges found.frozen.names
  pub root : IsCategory g found.frozen.root.0
  pub constraints : List Constraint
  pub question : Formula
  pub candidates : AreCandidates (with_graph g constraints) question (candidates_of found.candidates)
  pub is_one : IsFrozen (with_graph g constraints) question found.frozen.root.0 (candidates_of found.candidates)
      (frozen_of found.frozen)
  pub utf8 : (c : ℕ) (text : List ℕ) → IsConstant (with_graph g constraints) question c (AText text)
      → IsTrue (is_utf8 text)

-- its edges
abbrev pub found_edges : Graph → Found → List Edge
found_edges g found = chosen g.edges found.frozen.edges

-- the name of its member of that category
abbrev pub found_name : Found → ℕ → List ℕ
found_name found c = name_in (candidates_of found.candidates) (frozen_of found.frozen) c

-- the instance that it stands for: `thawed` of any schema with that graph
abbrev pub found_instance : Graph → Found → Instance
found_instance g found = instance_of g found.frozen.root.0 (found_edges g found) (found_name found)

-- the place of its root's member: `root_place` of any schema with that graph
abbrev pub found_place : Graph → Found → ℕ
found_place g found = place_in (choice.present_categories g found.frozen.root.0 (found_edges g found))
    found.frozen.root.0

-- the instance in the making
abbrev pub found_draft : Graph → Found → ℕ → List Edge → Draft
found_draft g found n linked = drafted g found.frozen.root.0 (found_edges g found) (found_name found) n linked
