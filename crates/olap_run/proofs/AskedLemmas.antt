-- Each question that an order comes to is about what was read: of valid schemas, a formula of one, a size.
use Rattle.std.{proofs.Common.{List, [], ◌∷◌, ℕ, length}, specs.Option.option_or}
use Rattle.std.specs.{Prelude.{None, Some, codes, nat_lt, unwrap_or}, Str.bytes_eq}
use Rattle.olap_base.specs.Limits.{most_words}
use Rattle.olap_cubes.{proofs.AskedLemmas.{asked_named as cubes_asked}, specs.Existing.{IsAsked as IsCubeAsked}}
use Rattle.olap_order.proofs.Coming.{Comes, MayCome, an_order, either, may_ask, may_either, may_or, no_order, or_else, told, whichever}
use Rattle.olap_order.specs.{Families.asking, Order.Told, Outputs.line, declared.status.Status.TheVariants.{Usage, Yes}}
use Rattle.olap_plans.{proofs.AskedLemmas.{asked_named as plans_asked}, specs.Existing.{IsAsked as IsPlanAsked}}
use Rattle.olap_reasoning.proofs.AskedLemmas.{asked_named as reasoning_asked}
use Rattle.olap_reasoning.specs.Existing.{IsAsked as IsReasoningAsked}
use Rattle.olap_run.specs.Commands.{order_named, order_of, usage, version, version_told}
use Rattle.olap_run.specs.Questions.{Question, OfReasoning, OfTotals, OfPlans, OfVerdicts, OfCubes}
use Rattle.olap_schema_text.specs.Laws.{ReadQuestionsAreValid, ReadSchemasAreReadable}
use Rattle.olap_verdicts.{proofs.AskedLemmas.{asked_named as verdicts_asked}, specs.Laws.{IsAsked as IsVerdictAsked}}
use Rattle.olap_cubes.specs.Commands as cubes
use Rattle.olap_plans.specs.Commands as plans
use Rattle.olap_reasoning.specs.Commands as reasoning
use Rattle.olap_totals.specs.Commands as totals
use Rattle.olap_verdicts.specs.Commands as verdicts

-- what is asked is about what was read
abbrev pub IsAsked : Question → Type 0
IsAsked (OfReasoning q) = IsReasoningAsked q
IsAsked (OfTotals q) = Unit {0}
IsAsked (OfPlans q) = IsPlanAsked q
IsAsked (OfVerdicts q) = IsVerdictAsked q
IsAsked (OfCubes q) = IsCubeAsked q

-- that of `version` comes to none
version_asked : (name : List ℕ) (words : List (List ℕ)) → MayCome IsAsked (version_told name words)
version_asked name [] = may_either IsAsked (bytes_eq name (codes "version")) (Some (Told Yes (line version))) None
    (an_order IsAsked (Told Yes (line version)) (told IsAsked Yes (line version))) (no_order IsAsked)
version_asked name (word ∷ words) = no_order IsAsked

module _ (readable : ReadSchemasAreReadable) (questions : ReadQuestionsAreValid) where
  -- the order of a command comes to such questions
  named_asked : (name : List ℕ) (words : List (List ℕ)) → MayCome IsAsked (order_named name words)
  named_asked name words =
      let a = asking OfReasoning (reasoning.order_named name words) in
      let b = asking OfTotals (totals.order_named name words) in
      let c = asking OfPlans (plans.order_named name words) in
      let d = asking OfVerdicts (verdicts.order_named name words) in
      let e = asking OfCubes (cubes.order_named name words) in
      may_or IsAsked a (option_or b (option_or c (option_or d e)))
      (may_ask IsReasoningAsked IsAsked OfReasoning (reasoning.order_named name words) (λ q p. p)
      (reasoning_asked readable questions name words))
      (may_or IsAsked b (option_or c (option_or d e))
      (may_ask (λ q. Unit {0}) IsAsked OfTotals (totals.order_named name words) (λ q u. tt)
      (whichever (totals.order_named name words)))
      (may_or IsAsked c (option_or d e)
      (may_ask IsPlanAsked IsAsked OfPlans (plans.order_named name words) (λ q p. p) (plans_asked readable name words))
      (may_or IsAsked d e
      (may_ask IsVerdictAsked IsAsked OfVerdicts (verdicts.order_named name words) (λ q p. p)
      (verdicts_asked readable name words))
      (may_ask IsCubeAsked IsAsked OfCubes (cubes.order_named name words) (λ q p. p)
      (cubes_asked readable name words)))))

  -- and so does that of whatever words
  pub all_asked : (words : List (List ℕ)) → Comes IsAsked (order_of words)
  all_asked [] = told IsAsked Usage (line (codes "usage"))
  all_asked (name ∷ words) =
      let order = option_or (version_told name words) (order_named name words) in
      either IsAsked (nat_lt most_words (length (name ∷ words))) usage (unwrap_or order usage)
      (told IsAsked Usage (line (codes "usage")))
      (or_else IsAsked order usage
      (may_or IsAsked (version_told name words) (order_named name words) (version_asked name words)
      (named_asked name words)) (told IsAsked Usage (line (codes "usage"))))
