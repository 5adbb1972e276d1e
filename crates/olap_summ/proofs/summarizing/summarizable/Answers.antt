use Rattle.std.proofs.Common.{◌∙◌, ap}
use Rattle.olap_ast.specs.Summarizable.{not_by_one}
use Rattle.olap_schema.specs.Schemas.{schema_of}
use Rattle.olap_summ.{proofs.CounterexampleLemmas.least_told, specs.Decisions.{asked_by, sources_of}}
use Rattle.olap_summ.proofs.summarizing.summarizable.Goals as goal

pub returns-clause-none : goal.returns-clause-none
returns-clause-none c =
    let s = schema_of c.args.schema.now in rw asked.sources at (rw asked.target at found.ensures.none)
  where
    open c use {in_ok-questions.ensures as asked, in_ok-found as found}

pub returns-clause-some : goal.returns-clause-some
returns-clause-some c =
    least_told (schema_of c.args.schema.now) (asked_by q) c.args.target.0 _ c.first_found.ensures.hierarchy
    (asked.made.asked ∙ ap (λ n. not_by_one n (sources_of q)) asked.target
    ∙ ap (not_by_one c.args.target.0) asked.sources)
    c.in_ok-found.found c.in_ok-found.ensures.some
  where
    open c use {in_ok-questions.questions as q, in_ok-questions.ensures as asked}
