-- A schema as contracts see it.
use Rattle.std.specs.Prelude.{List}
use Rattle.olap_base.specs.Graph.{Graph}
use Rattle.olap_ast.specs.declared.formulas.Constraint.{Constraint}

-- its graph, and its constraints as they are stored
pub record Shown : Type 0 where
  pub graph : Graph
  pub constraints : List Constraint
