-- A reader of the facts of a text that comes in pieces.
--     Feeding    what a reader is
--     fed_read   what a text stands for that was handed on without its byte order mark
--     Fed        these bytes were taken, and these are their facts
--     IsFeed     what is true of every reader
use Rattle.std.specs.Prelude.{◌≡◌, ◌∷◌, ◌++◌, ◌≤◌, ◌<◌, ◌^◌, ℕ, Bool, true, false, List, [], Option, Some, None, Result, length, map}
use Rattle.std.specs.Cmp.Lexicographic.{pointwise}
use Rattle.std.specs.Str.{bytes_eq}
use Rattle.olap_base.specs.Graph.{Graph}
use Rattle.olap_base.specs.Instance.{Instance}
use Rattle.olap_base.specs.Views.{Fact}
use Rattle.olap_base.specs.declared.refusals.Fault.{Fault}
use Rattle.olap_instance.specs.Made.{IsMadeFor}
use Rattle.olap_records.specs.Faults.{first_fault}
use Rattle.olap_records.specs.Standing.{Splitting, Standing, at_start, behind, records_fed, standing}
use Rattle.olap_facts.specs.FactText.{fact_fault_within, fact_read, facts_read_within, header}
use Rattle.olap_facts.specs.Seen.{fact_of}
use Rattle.olap_facts.specs.declared.kinds.FactKind.{FactKind}
use Rattle.olap_facts.specs.declared.settings.Setting.{Setting}
use Rattle.olap_facts.specs.declared.tables.Fact as told

-- the most facts that its text may have, how many it handed out, whether it found the header, and where it stands
pub record Feeding : Type 0 where
  pub graph : Graph
  pub instance : Instance
  pub most : ℕ
  pub handed : ℕ
  pub begun : Bool
  pub stands : Standing

-- what a text stands for that was handed on without its byte order mark
abbrev pub fed_read : Feeding → List ℕ → Result (List (Fact ℕ)) (Fault FactKind)
fed_read r text = facts_read_within r.most r.graph r.instance (records_fed text)

-- both read against the same
pub record IsSameSetting (old new : Feeding) : Type 0 where
  pub graph : new.graph ≡ old.graph
  pub instance : new.instance ≡ old.instance
  pub most : new.most ≡ old.most

-- the fact, if there is one
abbrev pub facts_if : Option told.Fact → List (Fact ℕ)
facts_if None = []
facts_if (Some f) = fact_of f ∷ []

-- ---- the records so far

-- before the header there is no record
pub record IsFresh (handed : ℕ) (done : List (List (List ℕ))) (facts : List (Fact ℕ)) : Type 0 where
  pub none : done ≡ []
  pub count : handed ≡ 0
  pub no_facts : facts ≡ []

-- the header came and then some records that have no fault, whatever comes after them, and these are their facts
pub record IsGoing (most : ℕ) (g : Graph) (i : Instance) (handed : ℕ) (done : List (List (List ℕ)))
    (facts : List (Fact ℕ)) : Type 0 where
  pub top : List (List ℕ)
  pub rows : List (List (List ℕ))
  pub parts : done ≡ top ∷ rows
  pub header : pointwise bytes_eq top header ≡ true
  pub count : length rows ≡ handed
  pub facts_are : facts ≡ map (fact_read i) rows
  pub faults : (left : List (List (List ℕ)))
      → first_fault (fact_fault_within most g i) [] (rows ++ left) ≡ first_fault (fact_fault_within most g i) rows left

-- these are the records so far, of which the header was found or not, and these their facts
pub record Counted (most : ℕ) (g : Graph) (i : Instance) (handed : ℕ) (begun : Bool) (done : List (List (List ℕ)))
    (facts : List (Fact ℕ)) : Type 0 where
  pub fresh : begun ≡ false → IsFresh handed done facts
  pub going : begun ≡ true → IsGoing most g i handed done facts

-- these bytes were taken, and these are the facts of the records that ended in them
pub record Fed (r : Feeding) (fed : List ℕ) (facts : List (Fact ℕ)) : Type 0 where
  pub done : List (List (List ℕ))
  pub stands : standing at_start fed ≡ behind done r.stands
  pub counted : Counted r.most r.graph r.instance r.handed r.begun done facts

-- ---- within

-- the reader of these parts
abbrev pub feeding_in : Setting → Splitting → ℕ → Bool → Feeding
feeding_in s splitter handed begun =
    record {
      graph = s.graph.now;
      instance = s.instance.now;
      most = s.most;
      handed = handed;
      begun = begun;
      stands = splitter.stands;
    }

-- what is true of every reader
pub record IsFeed (r : Feeding) : Type 0 where
  pub made : IsMadeFor r.graph r.instance
  pub small : r.most < 2 ^ 63
  pub few : r.handed ≤ r.most
