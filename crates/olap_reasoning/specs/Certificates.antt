-- What is printed beside yes or no: frozen dimensions with their lines.
--     ShowsMember       a category can have a member
--     ShowsUnmet        a constraint isn't met by all legal instances
--     ShowsDifference   a view isn't always that from the sources' views
use Rattle.std.specs.Prelude.{◌≡◌, ℕ, List, ◌++◌, codes}
use Rattle.olap_ast.specs.Formula.{Formula, Formula.Truth, Formula.Not}
use Rattle.olap_ast.specs.Frozen.{Candidates, Frozen, IsLeastFrozen, thawed}
use Rattle.olap_ast.specs.Schema.{Schema}
use Rattle.olap_ast.specs.Summarizable.{IsCounterexample}
use Rattle.olap_instance.specs.Printing.{text_of_instance}
use Rattle.olap_cex.specs.CexText.{counterexample_text}
use Rattle.olap_cex.specs.FrozenText.{frozen_text}
use Rattle.olap_order.specs.Outputs.{line}

-- `yes`, and the line of the least frozen dimension with this root
pub record ShowsMember (s : Schema) (c : ℕ) (bytes : List ℕ) : Type 0 where
  pub candidates : Candidates
  pub frozen : Frozen
  pub least : IsLeastFrozen s Truth c candidates frozen
  pub text : bytes ≡ line (codes "yes") ++ frozen_text s.graph candidates c frozen

-- `no`, the line of the least frozen dimension whose root makes the formula false, and its instance
pub record ShowsUnmet (s : Schema) (r : ℕ) (q : Formula) (bytes : List ℕ) : Type 0 where
  pub candidates : Candidates
  pub frozen : Frozen
  pub least : IsLeastFrozen s (Not q) r candidates frozen
  pub text : bytes ≡ line (codes "no") ++ (frozen_text s.graph candidates r frozen
      ++ text_of_instance s.graph (thawed s candidates r frozen))

-- `no`, the line of the counterexample, its instance, and two sums that differ
pub record ShowsDifference (s : Schema) (c : ℕ) (sources : List ℕ) (bytes : List ℕ) : Type 0 where
  pub candidates : Candidates
  pub root : ℕ
  pub frozen : Frozen
  pub counterexample : IsCounterexample s c sources candidates root frozen
  pub text : bytes ≡ line (codes "no") ++ (frozen_text s.graph candidates root frozen
      ++ counterexample_text s candidates root frozen c sources)
