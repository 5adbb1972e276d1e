-- What must be known of the frozen dimensions of a cube's dimensions, one by one.
--     IsFoundOf    one of a schema, as the program has it
--     IsDrawn      what its categories reach
use Rattle.std.specs.Prelude.{◌≡◌, ℕ, List, [], ◌∷◌, length}
use Rattle.olap_ast.specs.Frozen.{chosen}
use Rattle.olap_ast.specs.Schema.{Schema}
use Rattle.olap_base.specs.Graph.{IsCategory, IsHierarchy, category_count}
use Rattle.olap_cube.specs.CubeSummarizable.{IsChosen}
use Rattle.olap_cube_summ.specs.Found.{chosen_of}
use Rattle.olap_frozen.specs.declared.founding.Found.{Found}
use Rattle.olap_frozen.specs.declared.frozen.Room.{Room}
use Rattle.olap_frozen.specs.Leaves.{IsSized}
use Rattle.olap_frozen.specs.Rows.{AreRows}

-- a frozen dimension of the schema whose root reaches some target, with indexes of its names
pub record IsFoundOf (s : Schema) (f : Found) : Type 0 where
  pub target : ℕ
  pub chosen : IsChosen s target (chosen_of f)
  pub sized : IsSized s.graph f.candidates f.frozen.edges f.frozen.names

-- so it is of each dimension
abbrev pub AreFound : List Schema → List Found → Type 0
AreFound [] [] = Unit {0}
AreFound (s ∷ ss) (f ∷ fs) = IsFoundOf s f × AreFound ss fs
AreFound _ _ = ⊥

-- for each category a row of what it reaches by the edges of the frozen dimension
pub record IsDrawn (s : Schema) (f : Found) (room : Room) : Type 0 where
  pub hierarchy : IsHierarchy s.graph
  pub root : IsCategory s.graph f.frozen.root.0
  pub count : length room.rows.items ≡ category_count s.graph
  pub rows : AreRows s.graph (chosen s.graph.edges f.frozen.edges) room.rows.items

-- so it is of each dimension
abbrev pub AreDrawn : List Schema → List Found → List Room → Type 0
AreDrawn [] [] [] = Unit {0}
AreDrawn (s ∷ ss) (f ∷ fs) (r ∷ rs) = IsDrawn s f r × AreDrawn ss fs rs
AreDrawn _ _ _ = ⊥
