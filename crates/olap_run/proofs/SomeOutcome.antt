-- There is an outcome, wherever each file that the order comes to is held.
--     outcome_exists    the law
use Rattle.std.proofs.Common.{◌≡◌, ℕ, List, Option, None, Some, refl, sym, subst, inl, inr}
use Rattle.std.specs.Prelude.{IsSome, MatchOption}
use Rattle.olap_cubes.specs.Existing.{AnswersExist as CubesAnswersExist}
use Rattle.olap_outside.specs.Files.{Files}
use Rattle.olap_order.{proofs.Coming.Comes, specs.Judged.Gives, specs.Order.{ComesTo, Done, IsHeld, Order, Read, Told}}
use Rattle.olap_order.specs.declared.status.Status.{Status}
use Rattle.olap_plans.specs.Existing.{AnswersExist as PlansAnswersExist}
use Rattle.olap_reasoning.specs.Existing.{AnswersExist}
use Rattle.olap_run.{proofs.AskedLemmas.{IsAsked, all_asked}, specs.Commands.order_of, specs.Laws.OutcomeExists}
use Rattle.olap_run.specs.Questions.{IsAnswer, Question, OfReasoning, OfTotals, OfPlans, OfVerdicts, OfCubes}
use Rattle.olap_schema_text.specs.Laws.{ReadQuestionsAreValid, ReadSchemasAreReadable}
use Rattle.olap_verdicts.specs.Laws.{AnswersExist as VerdictsAnswersExist}

module _ (about_all : AnswersExist) (planned : PlansAnswersExist) (judged : VerdictsAnswersExist)
    (of_cubes : CubesAnswersExist) where
  -- what is asked has an answer
  some_answer : (q : Question) → IsAsked q → (status : Status) × (bytes : List ℕ) × IsAnswer q status bytes
  some_answer (OfReasoning q) p = about_all q p
  some_answer (OfTotals q) p = absurd q
  some_answer (OfPlans q) p = planned q p
  some_answer (OfVerdicts q) p = judged q p
  some_answer (OfCubes q) p = of_cubes q p

  -- so an order that comes to such questions alone gives an outcome, where each file is held
  given : (files : Files) (order : Order Question) → Comes IsAsked order → IsHeld files order
      → (status : Status) × (bytes : List ℕ) × Gives IsAnswer files order status bytes
  unfolding Comes
  given files (Done q) c held = some_answer q c
  given files (Told status bytes) c held = (status, bytes, (refl, refl))
  given files (Read name next) c held =
      go (files name) refl (held name (inl refl))
      (λ text e. given files (next text) (c text) (λ file to. held file (inr (subst (λ (o : Option (List ℕ)).
      MatchOption o ⊥ (λ text. ComesTo files (next text) file)) (sym e) to))))
    where
      go : (o : Option (List ℕ)) → files name ≡ o → IsSome o
          → ((text : List ℕ) → files name ≡ Some text
          → (status : Status) × (bytes : List ℕ) × Gives IsAnswer files (next text) status bytes)
          → (status : Status) × (bytes : List ℕ)
          × MatchOption (files name) ⊥ (λ text. Gives IsAnswer files (next text) status bytes)
      go None e h f = absurd (cc)
      go (Some text) e h f =
          let t = f text e in (
            t.0,
            t.1,
            subst (λ (o : Option (List ℕ)). MatchOption o ⊥ (λ text. Gives IsAnswer files (next text) t.0 t.1))
                (sym e) t.2,
          )

  pub outcome_exists : ReadSchemasAreReadable → ReadQuestionsAreValid → OutcomeExists
  outcome_exists readable questions words files held =
      given files (order_of words) (all_asked readable questions words) held
