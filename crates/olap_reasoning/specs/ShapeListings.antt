-- What is listed of shapes, the sets of edges that frozen dimensions have.
--     ListsShapes        the line of the least frozen dimension of each shape
--     HasTooManyShapes   there are more than may be listed
use Rattle.std.specs.Prelude.{ℕ, List}
use Rattle.olap_ast.specs.Formula.{Formula.Truth}
use Rattle.olap_ast.specs.Frozen.{Candidates}
use Rattle.olap_ast.specs.Schema.{Schema}
use Rattle.olap_base.specs.Limits.{most_frozen}
use Rattle.olap_dimsat.specs.Shapes.{AreMoreShapes, AreShapes}
use Rattle.olap_reasoning.specs.Listings.{Lists}

-- for each shape of c the line of the least frozen dimension with it, by their codes, and how many they are
abbrev pub ListsShapes : Schema → ℕ → List ℕ → Type 0
ListsShapes s c = Lists (AreShapes s Truth c) s c

-- c has more shapes than may be listed
abbrev pub HasTooManyShapes : Schema → ℕ → Type 0
HasTooManyShapes s c = (k : Candidates) × AreMoreShapes most_frozen s Truth c k
