-- The fields of a graph and of a builder: what they stand for, and keep.
use Rattle.std.specs.Prelude.{length}
use Rattle.olap_base.specs.Graph.{Graph, IsHierarchy}
use Rattle.olap_graph.specs.Building.{IsWithinLimits, IsUnfinished}
use Rattle.olap_graph.specs.Listing.{graph_of, IsHeaded}
use Rattle.olap_graph.specs.Tables.{AreTables, drawn}
use Rattle.olap_graph.specs.declared.building.GraphBuilder.TheInside as builder
use Rattle.olap_graph.specs.declared.graphs.Graph.TheInside as graph

-- the graph so far
abbrev pub built : builder.Inside → Graph
built a = graph_of a.names.items a.numbers.items a.edges.items

-- what a builder keeps
pub record IsBuilt (a : builder.Inside) : Type 0 where
  pub headed : IsHeaded a.names.items
  pub limits : IsWithinLimits (built a)
  pub unfinished : IsUnfinished (built a)

-- the graph
abbrev pub finished : graph.Inside → Graph
finished a = graph_of a.names.items a.numbers.items a.edges.items

-- what a graph keeps
pub record IsFinished (a : graph.Inside) : Type 0 where
  pub headed : IsHeaded a.names.items
  pub limits : IsWithinLimits (finished a)
  pub hierarchy : IsHierarchy (finished a)
  pub tables : AreTables (drawn a.edges.items) (length a.names.items) a.tables
