-- What holds of every frozen dimension and of every counterexample.
--     FrozenIsLegal        the instance of a frozen dimension is legal
--     RootIsMember         the root's place is the place of the root's member
--     QuestionIsTrue       the question is true there
--     CounterexampleSums   one fact at the root of a counterexample has two sums that differ
use Rattle.std.specs.Prelude.{◌≡◌, ℕ, List, Some, pos}
use Rattle.olap_ast.specs.Formula.{Formula, Holds}
use Rattle.olap_ast.specs.Frozen.{Candidates, Frozen, IsFrozen, root_place, thawed}
use Rattle.olap_ast.specs.Schema.{Schema, IsLegal}
use Rattle.olap_ast.specs.Summarizable.{IsCounterexample}
use Rattle.olap_base.specs.Graph.{IsCategory, IsHierarchy}
use Rattle.olap_base.specs.Instance.{IsMemberOf}
use Rattle.olap_base.specs.Views.{IsFactTable, one_fact}
use Rattle.olap_cex.specs.CexText.{direct_sum, views_sum}

-- the instance of a frozen dimension is legal
abbrev pub FrozenIsLegal : Type 0
FrozenIsLegal = (s : Schema) (q : Formula) (r : ℕ) (k : Candidates) (f : Frozen) → IsFrozen s q r k f
    → IsLegal s (thawed s k r f)

-- the root's place is the place of the root's member
abbrev pub RootIsMember : Type 0
RootIsMember = (s : Schema) (q : Formula) (r : ℕ) (k : Candidates) (f : Frozen) → IsHierarchy s.graph
    → IsCategory s.graph r → IsFrozen s q r k f → IsMemberOf (thawed s k r f) r (root_place s r f)

-- the question is true at the root's member
abbrev pub QuestionIsTrue : Type 0
QuestionIsTrue = (s : Schema) (q : Formula) (r : ℕ) (k : Candidates) (f : Frozen) → IsHierarchy s.graph
    → IsCategory s.graph r → IsFrozen s q r k f → Holds (thawed s k r f) (root_place s r f) q

-- one fact of value 1 at the root is a fact table, whose direct SUM is 1 and whose SUM from the sources isn't
pub record HasTwoSums (s : Schema) (c : ℕ) (sources : List ℕ) (k : Candidates) (b : ℕ) (f : Frozen) : Type 0 where
  pub facts : IsFactTable s.graph (thawed s k b f) (one_fact (root_place s b f))
  pub direct : direct_sum (thawed s k b f) (root_place s b f) c ≡ Some (pos 1)
  pub views : views_sum (thawed s k b f) (root_place s b f) c sources ≡ Some (pos 1) → ⊥

-- one fact at the root of a counterexample has two sums that differ
abbrev pub CounterexampleSums : Type 0
CounterexampleSums = (s : Schema) (c : ℕ) (sources : List ℕ) (k : Candidates) (b : ℕ) (f : Frozen)
    → IsHierarchy s.graph → IsCounterexample s c sources k b f → HasTwoSums s c sources k b f
