-- The last fact, or none, or a refusal of the text.
use Rattle.std.proofs.{Common.{◌++◌, ◌∷◌, ◌∙◌, [], Ok, Option, ap}, lemmas.List.append-nil}
use Rattle.olap_facts.specs.{Feeding.{facts_if, fed_read}, Seen.fact_of}
use Rattle.olap_view.specs.Seen.{views_of}
use Rattle.olap_delta.specs.Changing.{step_of}
use Rattle.olap_facts.specs.declared.tables.Fact as told
use Rattle.olap_delta.proofs.texts.ended.Goals as goal

pub returns-in-Ok-Some-clause-ended : goal.returns-in-Ok-Some-clause-ended
returns-in-Ok-Some-clause-ended c = λ fed facts f a. record {
  facts = facts ++ fact_of c.in-Ok-Some.fact ∷ [];
  read = c.in-Ok-Some.ensures.reads fed facts f
      ∙ ap (λ (last : Option told.Fact). Ok (facts ++ facts_if last)) c.in-Ok-Some.field-0-is;
  are = c.in_ok-and-in-Ok-Some.ensures.facts facts a;
}

pub returns-in-Ok-None-clause-ended : goal.returns-in-Ok-None-clause-ended
returns-in-Ok-None-clause-ended c = λ fed facts f a. record {
  facts = facts;
  read = c.in-Ok-None.ensures.reads fed facts f
      ∙ ap (λ (last : Option told.Fact). Ok (facts ++ facts_if last)) c.in-Ok-None.field-0-is
      ∙ ap Ok (append-nil facts);
  are = a;
}

pub returns-clause-ended : goal.returns-clause-ended
returns-clause-ended c = λ fed facts f a.
    let b = c.args.base in
    c.of_text.ensures (step_of b.change) b.legal.now (views_of b.store.now) (fed_read c.args.feed fed)
    (c.in-Err.ensures.reads fed facts f)
