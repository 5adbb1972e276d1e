use Rattle.std.proofs.Common.{◌∙◌}
use Rattle.olap_schema.specs.Schemas.{schema_of}
use Rattle.olap_view.specs.Seen.{views_of}
use Rattle.olap_generate.proofs.StoredLemmas.{generated}
use Rattle.olap_generate.proofs.generating.for_store.Goals as goal

pub returns : goal.returns
returns c =
    let input = c.args.input.now in
    generated input.seed input.size input.few (schema_of c.args.schema.now) c.args.legal.now
    (views_of c.args.store.now) c.requires.views c.in_ok-plan.plan.mask c.in_ok-plan.ensures.plan
    c.in_ok-plan.view.rows c.in_ok-plan.ensures.rows c.from_vec.result (c.from_vec.ensures ∙ c.in_ok-text.ensures)
