use Rattle.std.proofs.{Common.{sym, subst, true≢false, ◌∙◌}, lemmas.Result.IfOk-weaker}
use Rattle.olap_base.specs.Graph.{Graph, IsBottom}
use Rattle.olap_schema.specs.Schemas.{schema_of}
use Rattle.olap_summ.proofs.DecisionLemmas.{asked_at, asked_few}
use Rattle.olap_summ.proofs.summarizing.found_at.Goals as goal

pub found-requires-clause-question : goal.found-requires-clause-question
found-requires-clause-question c =
    asked_at (schema_of c.args.schema.now) c.args.questions.now c.args.root.0 c.requires.questions

pub found-requires-clause-few : goal.found-requires-clause-few
found-requires-clause-few c =
    asked_few (schema_of c.args.schema.now) c.args.questions.now c.constraints-valid.ensures.valid c.requires.questions

pub returns-then-not-is_bottom-clause-none : goal.returns-then-not-is_bottom-clause-none
returns-then-not-is_bottom-clause-none c = λ e bottom.
    let t = c.is_bottom.ensures.1 (subst (λ (g : Graph). IsBottom g c.args.root.0) (sym c.graph.ensures) bottom) in
    absurd (true≢false (sym t ∙ c.if-not-is_bottom.true))

pub returns-clause-none : goal.returns-clause-none
returns-clause-none c = IfOk-weaker c.found.result _ _ (λ o h e bottom. h.0 e) c.found.ensures.none

pub returns-clause-bottom : goal.returns-clause-bottom
returns-clause-bottom c =
    let bottom = rw c.graph.ensures at (c.is_bottom.ensures.0 c.if-not-is_bottom.false) in
    IfOk-weaker c.found.result _ _ (λ o h e. bottom) c.found.ensures.none
