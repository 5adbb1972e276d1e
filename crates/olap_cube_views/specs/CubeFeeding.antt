-- A roller of the facts of a cube's text that comes in pieces.
--     CubeRolling     what a roller is
--     cube_fed_read   what a text stands for that was handed on without its byte order mark
--     HasTakenFacts   these bytes were taken, and the tally stands for the facts of the records that ended in them
use Rattle.std.specs.Prelude.{◌≡◌, ◌≤◌, ◌∷◌, ◌++◌, ℕ, Bool, true, false, List, [], Result, length, map}
use Rattle.std.specs.Cmp.Lexicographic.{pointwise}
use Rattle.std.specs.Str.{bytes_eq}
use Rattle.olap_base.specs.Graph.{Graph}
use Rattle.olap_base.specs.Instance.{Instance}
use Rattle.olap_base.specs.Limits.{most_facts}
use Rattle.olap_base.specs.declared.refusals.Fault.{Fault}
use Rattle.olap_records.specs.Faults.{first_fault}
use Rattle.olap_records.specs.Standing.{Standing, at_start, behind, records_fed, standing}
use Rattle.olap_facts.specs.declared.kinds.FactKind.{FactKind}
use Rattle.olap_base.specs.Views.{Fact}
use Rattle.olap_cube.specs.Limits.{most_dimensions}
use Rattle.olap_cube_views.specs.CubeFactText.{cube_fact_fault_within, cube_fact_read, cube_facts_read_within, header}
use Rattle.olap_cube_views.specs.CubeTallies.{CubeStandsFor, CubeTallied}
use Rattle.olap_cube_views.specs.Dimensions.{AreMadeFor}

-- the dimensions' graphs, whether the header was found, where its text stands, and the totals of the facts so far
pub record CubeRolling : Type 0 where
  pub graphs : List Graph
  pub begun : Bool
  pub stands : Standing
  pub tally : CubeTallied

-- what a text stands for that was handed on without its byte order mark
abbrev pub cube_fed_read : List Graph → List Instance → List ℕ → Result (List (Fact (List ℕ))) (Fault FactKind)
cube_fed_read gs is text = cube_facts_read_within most_facts gs is (records_fed text)

-- ---- the records so far

-- before the header there is no record
pub record IsFresh (done : List (List (List ℕ))) (facts : List (Fact (List ℕ))) : Type 0 where
  pub none : done ≡ []
  pub no_facts : facts ≡ []

-- the header came and then some records that have no fault, whatever comes after them, and these are their facts
pub record IsGoing (gs : List Graph) (is : List Instance) (done : List (List (List ℕ)))
    (facts : List (Fact (List ℕ))) : Type 0
  where
    pub top : List (List ℕ)
    pub rows : List (List (List ℕ))
    pub parts : done ≡ top ∷ rows
    pub header_is : pointwise bytes_eq top (header (length is)) ≡ true
    pub facts_are : facts ≡ map (cube_fact_read is) rows
    pub faults : (left : List (List (List ℕ))) → first_fault (cube_fact_fault_within most_facts gs is) [] (rows ++ left)
        ≡ first_fault (cube_fact_fault_within most_facts gs is) rows left

-- these are the records so far, of which the header was found or not, and these their facts
pub record Counted (gs : List Graph) (is : List Instance) (begun : Bool) (done : List (List (List ℕ)))
    (facts : List (Fact (List ℕ))) : Type 0 where
  pub fresh : begun ≡ false → IsFresh done facts
  pub going : begun ≡ true → IsGoing gs is done facts

-- the header was found among these records, and the tally stands for the facts of the others
pub record HasCounted (gs : List Graph) (is : List Instance) (done : List (List (List ℕ))) (tally : CubeTallied)
    : Type 0
  where
    pub facts : List (Fact (List ℕ))
    pub counted : Counted gs is true done facts
    pub stands_for : CubeStandsFor tally facts

-- these bytes were taken, and the tally stands for the facts of the records that ended in them
pub record HasTakenFacts (gs : List Graph) (is : List Instance) (target fed : List ℕ) (r : CubeRolling) : Type 0 where
  pub graphs : r.graphs ≡ gs
  pub instances : r.tally.instances ≡ is
  pub target_is : r.tally.target ≡ target
  pub done : List (List (List ℕ))
  pub facts : List (Fact (List ℕ))
  pub stands_at : standing at_start fed ≡ behind done r.stands
  pub counted : Counted gs is r.begun done facts
  pub stands_for : CubeStandsFor r.tally facts

-- ---- within

-- the roller of these parts
abbrev pub cube_rolling : List Graph → Bool → Standing → CubeTallied → CubeRolling
cube_rolling gs begun stands tally = record { graphs = gs; begun = begun; stands = stands; tally = tally }

-- what is true of every roller: it reads against the instances that its tally adds up on, for the same categories
pub record IsCubeRoller (gs : List Graph) (is : List Instance) (categories : List ℕ) (tally : CubeTallied)
    : Type 0 where
  pub made : AreMadeFor gs is
  pub same : tally.instances ≡ is
  pub target_same : tally.target ≡ categories
  pub few : length is ≤ most_dimensions
