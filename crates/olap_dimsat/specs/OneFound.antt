-- Frozen dimensions that were found where any serves.
--     IsOneFound    it is a frozen dimension, and names are there for its indexes
use Rattle.std.specs.Prelude.{◌≡◌, ℕ}
use Rattle.olap_ast.specs.Formula.{Formula}
use Rattle.olap_ast.specs.Frozen.{AreCandidates, IsFrozen}
use Rattle.olap_ast.specs.Schema.{Schema}
use Rattle.olap_names.specs.Names.{candidates_of}
use Rattle.olap_frozen.specs.declared.founding.Found.{Found}
use Rattle.olap_frozen.specs.LeastFound.{frozen_of}
use Rattle.olap_frozen.specs.Leaves.{IsSized, IsZeroAtAll}

-- a frozen dimension with this root for the question, by the names that are handed out; `All` has the index 0
pub record IsOneFound (s : Schema) (q : Formula) (r : ℕ) (found : Found) : Type 0 where
  pub root : found.frozen.root.0 ≡ r
  pub sized : IsSized s.graph found.candidates found.frozen.edges found.frozen.names
  pub zero : IsZeroAtAll found.frozen.names
  pub candidates : AreCandidates s q (candidates_of found.candidates)
  pub is_one : IsFrozen s q r (candidates_of found.candidates) (frozen_of found.frozen)
