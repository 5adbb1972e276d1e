-- The tables of decisions on ways, and what they keep.
--     ways_kept    the decisions
--     AreOnce      none is on a way that was decided before
--     AreSaid      the tables say what was decided
--     AreTables    both, of categories that the tables have
--     AreKept      so it is of what is kept
use Rattle.std.specs.Prelude.{◌≡◌, ◌<◌, ℕ, List, [], ◌∷◌, Contains, None, length, map}
use Rattle.std.specs.FinSet as set
use Rattle.olap_base.specs.Limits.{most_categories}
use Rattle.olap_bits.specs.declared.sets.CatSet.{CatSet}
use Rattle.olap_graph.specs.Rows.{row}
use Rattle.olap_proof.specs.declared.ways.Ways.TheInside as ways
use Rattle.olap_proof.specs.KeptWays.{status_of_marks, way_kept}
use Rattle.olap_proof.specs.Places.{Way, way_of}

-- the decisions
abbrev pub ways_kept : ways.Inside → List Way
ways_kept a = map way_kept a.list.items

-- none is on a way that is decided after it
abbrev pub AreOnce : List Way → Type 0
AreOnce [] = Unit {0}
AreOnce (w ∷ ws) = (way_of ws w.child w.parent ≡ None) × AreOnce ws

-- the tables say what was decided
abbrev pub AreSaid : {W : ℕ} → List (CatSet W) → List (CatSet W) → List Way → Type 0
AreSaid there absent ws = (c d : ℕ) → way_of ws c d
    ≡ status_of_marks (set.contains (row there c) d) (set.contains (row absent c) d)

-- tables of all categories say what was decided, of each way once
pub record AreTables {W : ℕ} (there absent : List (CatSet W)) (ws : List Way) : Type 0 where
  pub there_size : length there ≡ most_categories
  pub absent_size : length absent ≡ most_categories
  pub once : AreOnce ws
  pub within : (w : Way) → Contains ws w → (w.child < most_categories) × (w.parent < most_categories)
  pub said : AreSaid there absent ws

-- what is kept of decisions on ways
abbrev pub AreKept : ways.Inside → Type 0
AreKept a = AreTables a.there.items a.absent.items (ways_kept a)
