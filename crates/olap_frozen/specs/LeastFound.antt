-- Frozen dimensions that were found, with their names.
--     frozen_of       the definitions' value
--     HasNothing      a value has nothing present
--     IsLeastFound    it is the least one, and names are there for its indexes
use Rattle.std.specs.Prelude.{◌≡◌, ℕ, All, false}
use Rattle.olap_ast.specs.Formula.{Formula}
use Rattle.olap_ast.specs.Frozen as frozen
use Rattle.olap_ast.specs.Schema.{Schema}
use Rattle.olap_names.specs.Names.{candidates_of}
use Rattle.olap_frozen.specs.declared.founding.Found.{Found}
use Rattle.olap_frozen.specs.declared.frozen.Frozen.{Frozen}
use Rattle.olap_frozen.specs.Leaves.{IsSized, IsZeroAtAll, chosen_of}

-- the choice of edges and names
abbrev pub frozen_of : Frozen → frozen.Frozen
frozen_of f = chosen_of f.edges f.names

-- no edge is present, and each category has the index 0
pub record HasNothing (f : Frozen) : Type 0 where
  pub edges : All (λ b. b ≡ false) f.edges
  pub names : All (λ n. n ≡ 0) f.names

-- the least frozen dimension with this root for the question; `All` has the index 0
pub record IsLeastFound (s : Schema) (q : Formula) (r : ℕ) (found : Found) : Type 0 where
  pub root : found.frozen.root.0 ≡ r
  pub sized : IsSized s.graph found.candidates found.frozen.edges found.frozen.names
  pub zero : IsZeroAtAll found.frozen.names
  pub least : frozen.IsLeastFrozen s q r (candidates_of found.candidates) (frozen_of found.frozen)
