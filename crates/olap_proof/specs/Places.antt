-- Places: frozen dimensions of which some edges, names and ways are decided, and what is known of them.
--     Naming          a decision on a category's name
--     Way             a decision on whether a member of one category reaches one of another
--     Place           a root, and decisions
--     is_known        the category is known to have a member
--     truth_of_reach  whether one category's member reaches another's
--     knowledge       what is known of edges, of reaching, of names and of comparisons
use Rattle.std.specs.Prelude.{◌&&◌, ◌||◌, ◌==◌, ◌++◌, ℕ, zero, suc, List, [], ◌∷◌, Bool, true, false, Option, Some, None, codes, filter, length, map, option_map, unwrap_or, if◌then◌else◌}
use Rattle.std.specs.List.{range_with_len}
use Rattle.std.specs.Str.{bytes_eq}
use Rattle.olap_base.specs.Graph.{Edge, Graph}
use Rattle.olap_base.specs.Reaching.{category_reaches}
use Rattle.olap_ast.specs.Frozen.{Candidates, is_present, text_of_index}
use Rattle.olap_ast.specs.ThreeValues.{known}
use Rattle.olap_ast.specs.declared.three_values.Truth3.{Truth3}
use Rattle.olap_ast.specs.declared.three_values.Truth3.TheVariants.{No, Yes, Unknown}
use Rattle.olap_eval.specs.Partial.{Knowledge}
use Rattle.olap_graph.specs.Lookups.{edge_at, edge_between}
use Rattle.olap_numerals.specs.Comparing.{is_numbered}
use Rattle.olap_trail.specs.Decisions.{Decided, present_edges, status_of}
use Rattle.olap_proof.specs.declared.forms.Form.{Form}
use Rattle.olap_proof.specs.declared.forms.Form.TheVariants.{Long, Short}

-- ---- what is decided

-- the category's name is the one at this index
pub record Naming : Type 0 where
  pub category : ℕ
  pub index : ℕ

-- whether the child category has a member that reaches one of the parent category
pub record Way : Type 0 where
  pub child : ℕ
  pub parent : ℕ
  pub there : Bool

-- a graph and a root with decisions on edges; decisions on names; and decisions on ways, which the short form has
pub record Place : Type 0 where
  pub decided : Decided
  pub namings : List Naming
  pub ways : List Way

-- the index that was decided for the category's name
abbrev pub index_of : List Naming → ℕ → Option ℕ
index_of [] c = None
index_of (n ∷ ns) c = if n.category == c then Some n.index else index_of ns c

-- what was decided of the way between two categories
abbrev pub way_of : List Way → ℕ → ℕ → Option Bool
way_of [] a b = None
way_of (w ∷ ws) a b = if (w.child == a) && (w.parent == b) then Some w.there else way_of ws a b

-- ---- which categories have a member

-- a way as if it were an edge
abbrev pub edge_of_way : Way → Edge
edge_of_way w = record { child = w.child; parent = w.parent }

-- the edges that were decided present, and the ways that were decided to be there
abbrev pub leading_edges : Place → List Edge
leading_edges p = present_edges p.decided ++ map edge_of_way (filter (λ w. w.there) p.ways)

-- the root has a member, and so have the ends of those edges and ways
abbrev pub is_known : Place → ℕ → Bool
is_known p c = is_present p.decided.root (leading_edges p) c

-- ---- what reaches what

-- the graph without the edges that were decided absent
abbrev pub possible_graph : Decided → Graph
possible_graph d = record d.graph {
  edges = map (edge_at d.graph)
      (filter (λ e. unwrap_or (status_of d e) true) (range_with_len 0 (length d.graph.edges)));
}

-- the graph of the edges and ways that are known to be there
abbrev pub leading_graph : Place → Graph
leading_graph p = record p.decided.graph { edges = leading_edges p }

-- in the short form each member is known to reach `all`
abbrev pub is_top : Form → ℕ → Bool
is_top Long b = false
is_top Short b = b == 0

-- a has a member, and what is known to be there leads on to b
abbrev pub leads : Form → Place → ℕ → ℕ → Bool
leads f p a b = is_known p a && (is_top f b || category_reaches (leading_graph p) a b)

-- whether a has a member that reaches one of b: what was decided; else Yes where it leads there, and No where no walk
-- of edges that aren't absent does
abbrev pub truth_of_reach : Form → Place → ℕ → ℕ → Truth3
truth_of_reach f p a b = elim (way_of p.ways a b) [
  | Some there ↦ known there
  | None ↦ if leads f p a b then Yes else (if category_reaches (possible_graph p.decided) a b then Unknown else No)
]

-- ---- edges and names

-- whether the edge between two categories is present, if there is one: what was decided
abbrev pub truth_of_edge : Decided → Option ℕ → Truth3
truth_of_edge d edge = unwrap_or (option_map (λ e. unwrap_or (option_map known (status_of d e)) Unknown) edge) No

-- the name that was decided; that of `All` always is
abbrev pub name_of : Candidates → List Naming → ℕ → Option (List ℕ)
name_of k ns zero = Some (codes "all")
name_of k ns (suc c) = option_map (text_of_index (k.first (suc c)) (k.texts (suc c))) (index_of ns (suc c))

-- whether the category has a member whose name passes the test, where its name is decided
abbrev pub truth_of_name : Place → ℕ → (List ℕ → Bool) → Option (List ℕ) → Truth3
truth_of_name p c passes None = Unknown
truth_of_name p c passes (Some name) = if passes name then (if is_known p c then Yes else Unknown) else No

-- ---- what is known

abbrev pub knowledge : Form → Candidates → Place → Knowledge
knowledge f k p = record {
  edge = λ a b. truth_of_edge p.decided (edge_between p.decided.graph a b);
  reaches = truth_of_reach f p;
  name = λ c text. truth_of_name p c (λ name. bytes_eq name text) (name_of k p.namings c);
  number = λ c op n. truth_of_name p c (λ name. is_numbered name op n) (name_of k p.namings c);
}
