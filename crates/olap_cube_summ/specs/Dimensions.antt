-- A cube's dimensions, and categories of them.
--     schemas_of        the schemas of a cube's dimensions
--     no_schema         what stands past the last dimension
--     AreCategoriesOf   a category of each dimension
use Rattle.std.specs.Prelude.{ℕ, List, [], ◌∷◌, map}
use Rattle.olap_ast.specs.Schema.{Schema}
use Rattle.olap_base.specs.Graph.{IsCategory}
use Rattle.olap_schema.specs.Schemas.{schema_of}
use Rattle.olap_schema.specs.Shown.{Shown}

-- the schemas of a cube's dimensions; a contract sees what each holds
abbrev pub schemas_of : List Shown → List Schema
schemas_of cube = map schema_of cube

-- a schema of nothing
abbrev pub no_schema : Schema
no_schema = record { graph = record { names = []; numbers = []; edges = [] }; constraints = [] }

-- a category of each dimension
abbrev pub AreCategoriesOf : List Schema → List ℕ → Type 0
AreCategoriesOf [] [] = Unit {0}
AreCategoriesOf (s ∷ ss) (c ∷ cs) = IsCategory s.graph c × AreCategoriesOf ss cs
AreCategoriesOf _ _ = ⊥
