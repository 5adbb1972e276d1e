-- The first constraint that isn't met, of a lawful instance.
use Rattle.std.proofs.Common.{ap, add-one, refl}
use Rattle.olap_check.{proofs.FirstLemmas.first6, specs.Reports.{member, parts_of}}
use Rattle.olap_check.specs.declared.violations.Violation.TheVariants.{Constraint}
use Rattle.olap_check.proofs.checking.judged.Goals as goal

pub returns-in-Some-clause-err : goal.returns-in-Some-clause-err
returns-in-Some-clause-err c =
    let s = parts_of c.args.graph.now c.args.constraints.now in
    let first = rw c.in-Some.is at c.in_ok-k.ensures.some in
    record {
      violation = _;
      is_first = first6 s c.args.instance.now c.in_ok-table.ensures.lawful c.in-Some.k c.in-Some.x first;
      is_told = ap (λ k. Constraint k (member c.in-Some.x)) (add-one c.in-Some.k);
    }

pub returns-in-None-clause-meets : goal.returns-in-None-clause-meets
returns-in-None-clause-meets c = (rw c.in-None.is at c.in_ok-k.ensures.none) refl
