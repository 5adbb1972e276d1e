use Rattle.std.{proofs.Common.{None, Some}, specs.Option.option_or}
use Rattle.olap_order.{proofs.Joining.{joined, or_next, or_this}, specs.Families.asking, specs.Words.texts}
use Rattle.olap_cubes.specs.Questions.{IsAnswer as IsCubesAnswer}
use Rattle.olap_plans.specs.Questions.{IsAnswer as IsPlansAnswer}
use Rattle.olap_reasoning.specs.Questions.{IsAnswer as IsReasoningAnswer}
use Rattle.olap_run.specs.Questions.{IsAnswer, OfCubes, OfPlans, OfReasoning, OfTotals, OfVerdicts}
use Rattle.olap_totals.specs.Questions.{IsAnswer as IsTotalsAnswer}
use Rattle.olap_verdicts.specs.Questions.{IsAnswer as IsVerdictsAnswer}
use Rattle.olap_cubes.specs.Commands as cubes
use Rattle.olap_plans.specs.Commands as plans
use Rattle.olap_run.proofs.judging.named.Goals as goal
use Rattle.olap_totals.specs.Commands as totals
use Rattle.olap_verdicts.specs.Commands as verdicts

pub returns-in-Some : goal.returns-in-Some
returns-in-Some g c =
    let name = c.args.name.now in
    let words = texts c.args.words.now in
    record {
      judged = or_this (option_or (asking OfTotals (totals.order_named name words))
          (option_or (asking OfPlans (plans.order_named name words))
          (option_or (asking OfVerdicts (verdicts.order_named name words))
          (asking OfCubes (cubes.order_named name words)))))
          (joined IsReasoningAnswer IsAnswer OfReasoning (λ q status bytes a. a) (Some c.in-Some.result)
          c.in-Some.ensures.judged);
    }

pub returns-in-Some-judge : goal.returns-in-Some-judge
returns-in-Some-judge g c =
    let name = c.args.name.now in
    let words = texts c.args.words.now in
    record {
      judged = or_next (joined IsReasoningAnswer IsAnswer OfReasoning
          (λ q status bytes a. a) None c.in_default.ensures.judged)
          (or_this (option_or (asking OfPlans (plans.order_named name words))
          (option_or (asking OfVerdicts (verdicts.order_named name words))
          (asking OfCubes (cubes.order_named name words))))
          (joined IsTotalsAnswer IsAnswer OfTotals (λ q status bytes a. a) (Some c.in-Some-judge.result)
          c.in-Some-judge.ensures.judged));
    }

pub returns-in-Some-judge-2 : goal.returns-in-Some-judge-2
returns-in-Some-judge-2 g c =
    let name = c.args.name.now in
    let words = texts c.args.words.now in
    record {
      judged = or_next (joined IsReasoningAnswer IsAnswer OfReasoning
          (λ q status bytes a. a) None c.in_default.ensures.judged)
          (or_next (joined IsTotalsAnswer IsAnswer OfTotals
          (λ q status bytes a. a) None c.in_default-judge.ensures.judged)
          (or_this (option_or (asking OfVerdicts (verdicts.order_named name words))
          (asking OfCubes (cubes.order_named name words)))
          (joined IsPlansAnswer IsAnswer OfPlans (λ q status bytes a. a) (Some c.in-Some-judge-2.result)
          c.in-Some-judge-2.ensures.judged)));
    }

pub returns-in-Some-judge-3 : goal.returns-in-Some-judge-3
returns-in-Some-judge-3 g c = record {
  judged = or_next (joined IsReasoningAnswer IsAnswer OfReasoning
      (λ q status bytes a. a) None c.in_default.ensures.judged)
      (or_next (joined IsTotalsAnswer IsAnswer OfTotals (λ q status bytes a. a) None c.in_default-judge.ensures.judged)
      (or_next (joined IsPlansAnswer IsAnswer OfPlans (λ q status bytes a. a) None c.in_default-judge-2.ensures.judged)
      (or_this (asking OfCubes (cubes.order_named c.args.name.now (texts c.args.words.now)))
      (joined IsVerdictsAnswer IsAnswer OfVerdicts (λ q status bytes a. a) (Some c.in-Some-judge-3.result)
      c.in-Some-judge-3.ensures.judged))));
}

pub returns : goal.returns
returns g c = record {
  judged = or_next (joined IsReasoningAnswer IsAnswer OfReasoning
      (λ q status bytes a. a) None c.in_default.ensures.judged)
      (or_next (joined IsTotalsAnswer IsAnswer OfTotals (λ q status bytes a. a) None c.in_default-judge.ensures.judged)
      (or_next (joined IsPlansAnswer IsAnswer OfPlans (λ q status bytes a. a) None c.in_default-judge-2.ensures.judged)
      (or_next (joined IsVerdictsAnswer IsAnswer OfVerdicts
      (λ q status bytes a. a) None c.in_default-judge-3.ensures.judged)
      (joined IsCubesAnswer IsAnswer OfCubes (λ q status bytes a. a) c.judge-5.result c.judge-5.ensures.judged))));
}
