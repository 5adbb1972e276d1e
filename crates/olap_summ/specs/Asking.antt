-- What is found by asking one bottom category after the other.
--     IsFirstFound    it is one of the first that has one
use Rattle.std.specs.Prelude.{ℕ, ◌<◌}
use Rattle.olap_base.specs.Graph.{IsBottom}
use Rattle.olap_ast.specs.Formula.{Formula}
use Rattle.olap_ast.specs.Schema.{Schema}
use Rattle.olap_dimsat.specs.Finding.{IsFoundAs}
use Rattle.olap_dimsat.specs.declared.finding.Wanted.{Wanted}
use Rattle.olap_frozen.specs.declared.founding.Found.{Found}
use Rattle.olap_summ.specs.Answers.{IsNowhere}

-- it is as it was wanted, of the first bottom category that has one for the question
pub record IsFirstFound (w : Wanted) (s : Schema) (q : Formula) (found : Found) : Type 0 where
  pub bottom : IsBottom s.graph found.frozen.root.0
  pub found_as : IsFoundAs w s q found.frozen.root.0 found
  pub first : (d : ℕ) → d < found.frozen.root.0 → IsBottom s.graph d → IsNowhere s q d
