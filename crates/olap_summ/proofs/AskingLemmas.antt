-- What is found of the frozen dimensions of a root, or isn't, in all legal instances.
use Rattle.std.{proofs.Common.{ℕ, refl, ◌↔◌}, specs.Prelude.{Option, Some, None, Result, Ok, Err, IfOk, IfSome, IsNone}}
use Rattle.olap_base.specs.Graph.{IsHierarchy}
use Rattle.olap_ast.specs.{Formula.Formula, Schema.Schema}
use Rattle.olap_dimsat.specs.{Finding.{HasNone, IsFoundAs}, OneFound.IsOneFound, declared.finding.Wanted.Wanted}
use Rattle.olap_frozen.specs.declared.founding.Found.{Found}
use Rattle.olap_summ.{proofs.NowhereLemmas.{none_is, nowhere, one_of, some_is, somewhere}, specs.Answers.IsNowhere}
use Rattle.olap_dimsat.specs.declared.finding.Wanted.TheVariants as wanted

-- what was found as it was wanted is one
pub found_is_one : (w : Wanted) (s : Schema) (q : Formula) (r : ℕ) (found : Found) → IsFoundAs w s q r found
    → IsOneFound s q r found
found_is_one wanted.Least s q r found f = one_of s q r found f
found_is_one wanted.Any s q r found f = f

-- none was found exactly if the question is true nowhere
pub none_exactly : {E : Type 0} (w : Wanted) (s : Schema) (q : Formula) (r : ℕ) (result : Result (Option Found) E)
    → IsHierarchy s.graph → IfOk result (λ o. IsNone o → HasNone s q r)
    → IfOk result (λ o. IfSome o (IsFoundAs w s q r)) → IfOk result (λ o. IsNone o ↔ IsNowhere s q r)
none_exactly w s q r (Ok (Some found)) hier none some =
    some_is found (IsNowhere s q r) (somewhere s q r found hier (found_is_one w s q r found some))
none_exactly w s q r (Ok None) hier none some =
    let n = none refl in none_is Found (IsNowhere s q r) (nowhere s q r n.0 hier n.1 n.2)
none_exactly w s q r (Err e) hier none some = tt
