-- Counterexamples to summarizability, as they are found.
--     IsCounterexampleFound       it is the counterexample, and names are there for its indexes
--     IsOneCounterexampleFound    it is one, and need not be the least
use Rattle.std.specs.Prelude.{ℕ, List}
use Rattle.olap_ast.specs.Schema.{Schema}
use Rattle.olap_ast.specs.Summarizable.{IsCounterexample, not_by_one}
use Rattle.olap_base.specs.Graph.{IsBottom}
use Rattle.olap_dimsat.specs.OneFound.{IsOneFound}
use Rattle.olap_frozen.specs.declared.founding.Found.{Found}
use Rattle.olap_frozen.specs.LeastFound.{frozen_of}
use Rattle.olap_frozen.specs.Leaves.{IsSized, IsZeroAtAll}
use Rattle.olap_names.specs.Names.{candidates_of}

-- it is the counterexample, with an entry for each edge and each category, and indexes of its names; `All` has 0
pub record IsCounterexampleFound (s : Schema) (c : ℕ) (sources : List ℕ) (found : Found) : Type 0 where
  pub is_one : IsCounterexample s c sources (candidates_of found.candidates) found.frozen.root.0
      (frozen_of found.frozen)
  pub sized : IsSized s.graph found.candidates found.frozen.edges found.frozen.names
  pub zero : IsZeroAtAll found.frozen.names

-- it is a frozen dimension of some bottom category whose root reaches c, and not by exactly one source
pub record IsOneCounterexampleFound (s : Schema) (c : ℕ) (sources : List ℕ) (found : Found) : Type 0 where
  pub bottom : IsBottom s.graph found.frozen.root.0
  pub one : IsOneFound s (not_by_one c sources) found.frozen.root.0 found
