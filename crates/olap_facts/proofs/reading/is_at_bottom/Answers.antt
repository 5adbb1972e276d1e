-- The look at the table of bottoms is the test.
use Rattle.std.{proofs.Common.{◌∙◌, ap, subst}, specs.Bool.one_answer}
use Rattle.olap_base.specs.Graph.{IsBottom}
use Rattle.olap_facts.{proofs.BottomLemmas.bottom-is, specs.FactText.is_bottom}
use Rattle.olap_facts.proofs.reading.is_at_bottom.Goals as goal

pub returns-clause-value : goal.returns-clause-value
returns-clause-value c =
    one_answer c.is_bottom.result (is_bottom c.args.graph.now c.category.result.0) c.is_bottom.ensures
    (bottom-is c.args.graph.now c.category.result.0)
    ∙ ap (is_bottom c.args.graph.now) c.category.ensures

pub returns-clause-bottom : goal.returns-clause-bottom
returns-clause-bottom c = λ t. subst (λ x. IsBottom c.args.graph.now x) c.category.ensures (c.is_bottom.ensures.0 t)
