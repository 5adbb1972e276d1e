use Rattle.std.proofs.Common.{sym, ◌∙◌}
use Rattle.olap_schema.specs.{Readable.IsReadable, Schemas.schema_of}
use Rattle.olap_schema_text.proofs.ValidQuestions.{asked_has_texts, asked_is_question}
use Rattle.olap_schema_text.proofs.questions.read_formula.Goals as goal

pub returns-clause-question : goal.returns-clause-question
returns-clause-question c =
    let readable : IsReadable (schema_of c.args.schema.now) =
    record { valid = c.constraints-constraints.ensures.valid; texts = c.constraints-constraints.ensures.texts } in
    asked_is_question _ readable _ c.requires _ (sym c.is_bad.ensures ∙ c.if-is_bad.false) _ c.read_question.ensures

pub returns-clause-texts : goal.returns-clause-texts
returns-clause-texts c =
    let readable : IsReadable (schema_of c.args.schema.now) =
    record { valid = c.constraints-constraints.ensures.valid; texts = c.constraints-constraints.ensures.texts } in
    asked_has_texts _ readable _ c.requires _ (sym c.is_bad.ensures ∙ c.if-is_bad.false) _ c.read_question.ensures
