-- There is one answer at most to a question about a cube.
use Rattle.std.{proofs.Common.{◌++◌, ◌∙◌, ℕ, List, ap, sym, inl, inr}, specs.Prelude.codes}
use Rattle.olap_ast.specs.Schema.{Schema}
use Rattle.olap_base.specs.Views.{one_fact, only_sum}
use Rattle.olap_cube.specs.CubeSummarizable.{BadChoicesHaveTwoSums, Chosen, IsCubeCounterexample, IsCubeSummarizable, TheCubeCounterexampleIsOne, instances_of}
use Rattle.olap_cube_summ.specs.Laws.{OneChoiceHasOneText}
use Rattle.olap_order.specs.Outputs.{line}
use Rattle.olap_cubes.specs.{Laws.AnswersAreOne, Questions.ByCube}

module _ (one : TheCubeCounterexampleIsOne) (text : OneChoiceHasOneText) (sums : BadChoicesHaveTwoSums) where
  -- a target that is summarizable has no counterexample
  never : (schemas : List Schema) (c : List ℕ) (sources : List (List ℕ)) → IsCubeSummarizable schemas c sources
      → (choice : List Chosen) → IsCubeCounterexample schemas c sources choice → ⊥
  never schemas c sources summarizable choice x =
      let roots = x.is_one.roots in
      let h = sums schemas c sources choice x.is_one in
      let agree = summarizable (instances_of schemas choice) h.legal (one_fact roots) h.facts in
      h.views (sym (ap only_sum agree) ∙ h.direct)

  -- a question about a cube has one status and one text at most
  pub answers_are_one : AnswersAreOne
  answers_are_one (ByCube schemas c sources) x y b d (inl p) (inl q) = (p.0 ∙ sym q.0, p.2 ∙ sym q.2)
  answers_are_one (ByCube schemas c sources) x y b d (inl p) (inr q) =
      absurd (never schemas c sources p.1 q.1.0 q.1.1)
  answers_are_one (ByCube schemas c sources) x y b d (inr p) (inl q) =
      absurd (never schemas c sources q.1 p.1.0 p.1.1)
  answers_are_one (ByCube schemas c sources) x y b d (inr p) (inr q) = (
    p.0 ∙ sym q.0,
    p.1.2
        ∙ ap (λ lines. line (codes "no") ++ lines)
        (text schemas p.1.0 q.1.0 c sources (one schemas c sources p.1.0 q.1.0 p.1.1 q.1.1))
        ∙ sym q.1.2,
  )
