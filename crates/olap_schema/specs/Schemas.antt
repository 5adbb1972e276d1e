-- The definitions' schema that the program's stands for.
use Rattle.std.specs.Prelude.{map}
use Rattle.olap_ast.specs.Schema as schemas
use Rattle.olap_ast.specs.Trees.{constraint_of}
use Rattle.olap_schema.specs.declared.schemas.Schema.{Schema}

-- the graph and the constraints
abbrev pub schema_of : Schema → schemas.Schema
schema_of s = record { graph = s.graph; constraints = map constraint_of s.constraints }
