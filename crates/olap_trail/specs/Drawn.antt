-- The fields of a drawing: what they stand for, and keep.
--     drawing      what it stands for
--     AreTables    what lists of sets and marks say of a list of edges
use Rattle.std.specs.Prelude.{◌≡◌, ◌≢◌, ℕ, ◌+◌, ◌*◌, ◌<◌, ◌≤◌, ◌↔◌, List, AllPairs, Bool, true, false, length, map, take, slice_index_or, vec_capacity}
use Rattle.olap_base.specs.Graph.{Edge}
use Rattle.olap_bits.specs.CatSet.{IsOfWidth}
use Rattle.olap_bits.specs.declared.sets.CatSet.{CatSet}
use Rattle.olap_graph.specs.Rows.{row}
use Rattle.olap_trail.specs.Drawing.{AreBeyond, Drawing, IsCyclic, IsNext, Joins, edge_of}
use Rattle.olap_trail.specs.declared.drawing.Drawn.TheInside as drawn

-- how many categories, how many edges at most, and the edges
abbrev pub drawing : {W : ℕ} → drawn.Inside W → Drawing
drawing a = record {
  count = length a.parents.items;
  room = length a.cycles.items;
  edges = map edge_of a.edges.items;
}

-- after each number of edges what is beyond each category, and whether there is a cycle; and where edges lead. There is
-- room for as many edges as there are marks but one, and for the sets of each number of them
pub record AreTables {W : ℕ} (room set_room : ℕ) (es : List Edge) (top : ℕ) (sets nexts : List (CatSet W))
    (marks : List Bool) : Type 0 where
  pub width : IsOfWidth W
  pub wide : length nexts ≤ 64 * W
  pub few : length es < length marks
  pub reserved : length marks ≤ room + 1
  pub size : top + length nexts ≤ length sets
  pub reserved_sets : length marks * length nexts ≤ set_room
  pub place : top ≡ length es * length nexts
  pub within : (c d : ℕ) → Joins es c d → (c < length nexts) × (d < length nexts)
  pub differ : AllPairs ◌≢◌ es
  pub rows : (k : ℕ) → k ≤ length es → AreBeyond (take k es) (length nexts) (k * length nexts) sets
  pub parents : (c : ℕ) → c < length nexts → IsNext es c (row nexts c)
  pub cycles : (k : ℕ) → k ≤ length es → (slice_index_or marks k false ≡ true) ↔ IsCyclic (take k es)

-- what a drawing keeps
abbrev pub IsDrawn : {W : ℕ} → drawn.Inside W → Type 0
IsDrawn a = AreTables (vec_capacity a.edges) (vec_capacity a.rows) (map edge_of a.edges.items) a.place a.rows.items
    a.parents.items a.cycles.items
