-- The dimensions of a cube, side by side.
--     graphs_of       their graphs
--     instances_of    their instances
--     instances_in    the instances that columns lead up in
--     categories_in   the categories that columns lead to
--     AreMadeFor      each instance was made for its graph
use Rattle.std.specs.Prelude.{ℕ, List, [], ◌∷◌, map}
use denote.Ref.{Bor}
use Rattle.olap_base.specs.Graph.{Graph}
use Rattle.olap_base.specs.Instance.{Instance}
use Rattle.olap_instance.specs.Made.{IsMadeFor}
use Rattle.olap_view.specs.Columns.{Ascent}

-- the graphs that references point to
abbrev pub graphs_of : List (Bor Graph) → List Graph
graphs_of graphs = map (λ g. g.now) graphs

-- the instances that references point to
abbrev pub instances_of : List (Bor Instance) → List Instance
instances_of instances = map (λ i. i.now) instances

-- the instances that columns lead up in
abbrev pub instances_in : List Ascent → List Instance
instances_in columns = map (λ a. a.instance) columns

-- the categories that columns lead to
abbrev pub categories_in : List Ascent → List ℕ
categories_in columns = map (λ a. a.category) columns

-- each instance was made for its graph
abbrev pub AreMadeFor : List Graph → List Instance → Type 0
AreMadeFor [] [] = Unit {0}
AreMadeFor (g ∷ gs) (i ∷ is) = IsMadeFor g i × AreMadeFor gs is
AreMadeFor _ _ = ⊥
