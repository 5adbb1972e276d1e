-- There is one outcome at most: the words and the files leave no choice of the status and the bytes.
--     outcome_is_one    the law
use Rattle.std.{proofs.Common.{◌≡◌, ◌⊎◌, List, ℕ, inl, sym, ◌∙◌}, specs.Prelude.{MatchOption, None, Option, Some}}
use Rattle.olap_outside.specs.Files.{Files}
use Rattle.olap_cubes.specs.Laws.{AnswersAreOne as CubesAnswersAreOne}
use Rattle.olap_order.{proofs.Coming.Comes, specs.Judged.Gives, specs.Order.{Order, Done, Told, Read}}
use Rattle.olap_order.specs.declared.status.Status.{Status, TheVariants.Yes}
use Rattle.olap_plans.specs.Laws.{AnswersAreOne as PlansAnswersAreOne}
use Rattle.olap_reasoning.specs.Laws.{AnswersAreOne}
use Rattle.olap_run.{proofs.AskedLemmas.{IsAsked, all_asked}, specs.Commands.order_of}
use Rattle.olap_run.specs.Laws.{AreCertificates, OutcomeIsOne}
use Rattle.olap_run.specs.Questions.{IsAnswer, Question, OfReasoning, OfTotals, OfPlans, OfVerdicts, OfCubes}
use Rattle.olap_schema_text.specs.Laws.{ReadQuestionsAreValid, ReadSchemasAreReadable}
use Rattle.olap_verdicts.specs.Laws.{AnswersAreOne as VerdictsAnswersAreOne}

module _ (about_all : AnswersAreOne) (planned : PlansAnswersAreOne) (judged : VerdictsAnswersAreOne)
    (of_cubes : CubesAnswersAreOne) where
  -- what is asked has one answer
  one_answer : (files : Files) (q : Question) (s t : Status) (xs ys : List ℕ) → IsAsked q → IsAnswer q s xs
      → IsAnswer q t ys → (s ≡ t) × ((xs ≡ ys) ⊎ ((s ≡ Yes) × AreCertificates files (Done q) xs ys))
  one_answer files (OfReasoning q) s t xs ys p a b = about_all q s t xs ys a b
  one_answer files (OfTotals q) s t xs ys p a b = absurd a
  one_answer files (OfPlans q) s t xs ys p a b = let one = planned q s t xs ys a b in (one.0, inl one.1)
  one_answer files (OfVerdicts q) s t xs ys p a b = let one = judged q s t xs ys p a b in (one.0, inl one.1)
  one_answer files (OfCubes q) s t xs ys p a b = let one = of_cubes q s t xs ys a b in (one.0, inl one.1)

  -- along any order that comes to such questions
  one_given : (files : Files) (order : Order Question) (s t : Status) (xs ys : List ℕ) → Comes IsAsked order
      → Gives IsAnswer files order s xs → Gives IsAnswer files order t ys
      → (s ≡ t) × ((xs ≡ ys) ⊎ ((s ≡ Yes) × AreCertificates files order xs ys))
  unfolding Comes
  one_given files (Done q) s t xs ys c a b = one_answer files q s t xs ys c a b
  one_given files (Told status text) s t xs ys c a b = (a.0 ∙ sym b.0, inl (a.1 ∙ sym b.1))
  one_given files (Read name next) s t xs ys c a b =
      go (files name) (λ text. one_given files (next text) s t xs ys (c text)) a b
    where
      go : (o : Option (List ℕ)) → ((text : List ℕ) → Gives IsAnswer files (next text) s xs
          → Gives IsAnswer files (next text) t ys
          → (s ≡ t) × ((xs ≡ ys) ⊎ ((s ≡ Yes) × AreCertificates files (next text) xs ys)))
          → MatchOption o ⊥ (λ text. Gives IsAnswer files (next text) s xs)
          → MatchOption o ⊥ (λ text. Gives IsAnswer files (next text) t ys)
          → (s ≡ t) × ((xs ≡ ys) ⊎ ((s ≡ Yes) × MatchOption o ⊥ (λ text. AreCertificates files (next text) xs ys)))
      go None one a b = absurd a
      go (Some text) one a b = one text a b

  pub outcome_is_one : ReadSchemasAreReadable → ReadQuestionsAreValid → OutcomeIsOne
  outcome_is_one readable questions words files s t xs ys =
      one_given files (order_of words) s t xs ys (all_asked readable questions words)
