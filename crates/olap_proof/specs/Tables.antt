-- Tables: a set for each category, of what it reaches.
--     place_of    a place with decisions on edges and on ways
--     Draws       the sets get what edges that were seen lead to, and nothing that isn't reached
--     IsTable     each set has what its category reaches
use Rattle.std.specs.Prelude.{◌≡◌, ◌<◌, ℕ, List, [], length}
use Rattle.olap_base.specs.Graph.{CategoryReaches, Graph}
use Rattle.olap_bits.specs.declared.sets.CatSet.{CatSet}
use Rattle.olap_graph.specs.Rows.{Has, row}
use Rattle.olap_trail.specs.Decisions.{Decided}
use Rattle.olap_proof.specs.Places.{Place, Way}
use Rattle.olap_proof.specs.Walking.{IsWalk}

-- a place with these decisions on edges and on ways
abbrev pub place_of : Decided → List Way → Place
place_of t ways = record { decided = t; namings = []; ways = ways }

-- the sets keep what they have, and get what edges that were seen lead to; where they had only what is reached, they do
pub record Draws {W : ℕ} (g : Graph) (Seen : ℕ → ℕ → Type 0) (old new : List (CatSet W)) : Type 0 where
  pub count : length new ≡ length old
  pub kept : (c d : ℕ) → Has old c d → Has new c d
  pub sound : ((c d : ℕ) → Has old c d → CategoryReaches g c d) → (c d : ℕ) → Has new c d → CategoryReaches g c d
  pub drawn : (c d : ℕ) → Seen c d → Has new c d

-- each of n sets has what its category reaches
pub record IsTable {W : ℕ} (g : Graph) (n : ℕ) (rows : List (CatSet W)) : Type 0 where
  pub count : length rows ≡ n
  pub each : (c : ℕ) → c < n → IsWalk g c (row rows c)
