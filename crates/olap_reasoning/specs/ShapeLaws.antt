-- What the definitions of shapes leave no choice in.
--     ShapesAreOne                the least frozen dimensions of all shapes are one list
--     EachShapeIsListedOnce       no shape is listed twice, and no frozen dimension has another
--     TooManyShapesAreNotListed   if there are more than may be listed, no list has all
use Rattle.std.specs.Prelude.{◌≡◌, ◌≢◌, ℕ, Bool, List, AllPairs, Contains, map}
use Rattle.olap_ast.specs.Formula.{Formula}
use Rattle.olap_ast.specs.Frozen.{Candidates, Frozen, IsFrozen}
use Rattle.olap_ast.specs.Schema.{Schema}
use Rattle.olap_dimsat.specs.Shapes.{AreShapes}
use Rattle.olap_reasoning.specs.ShapeListings.{HasTooManyShapes, ListsShapes}

-- the edges of each that is listed
abbrev pub edges_of : List Frozen → List (List Bool)
edges_of shapes = map (λ f. f.edges) shapes

-- the least frozen dimensions of all shapes of a root are one list, whichever candidates are taken
abbrev pub ShapesAreOne : Type 0
ShapesAreOne = (s : Schema) (q : Formula) (r : ℕ) (k h : Candidates) (shapes others : List Frozen)
    → AreShapes s q r k shapes → AreShapes s q r h others → shapes ≡ others

-- no two that are listed have the same edges, and the edges of each frozen dimension are those of one
abbrev pub EachShapeIsListedOnce : Type 0
EachShapeIsListedOnce = (s : Schema) (q : Formula) (r : ℕ) (k : Candidates) (shapes : List Frozen)
    → AreShapes s q r k shapes
    → AllPairs ◌≢◌ (edges_of shapes) × ((f : Frozen) → IsFrozen s q r k f → Contains (edges_of shapes) f.edges)

-- if there are more shapes than may be listed, no list has all
abbrev pub TooManyShapesAreNotListed : Type 0
TooManyShapesAreNotListed = (s : Schema) (c : ℕ) (bytes : List ℕ) → HasTooManyShapes s c → ListsShapes s c bytes → ⊥
