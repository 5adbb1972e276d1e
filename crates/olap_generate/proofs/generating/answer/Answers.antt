use Rattle.std.proofs.Common.{ℕ, ap, subst}
use Rattle.olap_base.specs.{Refusing.IsFor, Views.View}
use Rattle.olap_nav.specs.Plans.{Serves}
use Rattle.olap_schema.specs.Schemas.{schema_of}
use Rattle.olap_view.specs.{Seen.{view_of, views_of}, Stores.chosen}
use Rattle.olap_generate.proofs.StoredLemmas.{city_serves, few_rows, region_there, regions_fit, table, views_direct}
use Rattle.olap_generate.specs.Location.{region}
use Rattle.olap_generate.proofs.generating.answer.Goals as goal

pub answer-requires-clause-target : goal.answer-requires-clause-target
answer-requires-clause-target c =
    let input = c.args.input.now in
    region_there input.seed input.size input.few (schema_of c.args.schema.now) c.args.legal.now
    (views_of c.args.store.now) c.requires.views

pub unreachable-requires : goal.unreachable-requires
unreachable-requires c =
    let input = c.args.input.now in
    (subst (IsFor (λ _. (m : ℕ) → Serves (schema_of c.args.schema.now) (views_of c.args.store.now) region m → ⊥))
    c.in-Err-Kind.field-0-is c.in-Err-Kind.ensures.not_answerable) 4
    (city_serves input.seed input.size input.few (schema_of c.args.schema.now) c.args.legal.now
    (views_of c.args.store.now) c.requires.views)

pub returns-in-Ok-clause-fit : goal.returns-in-Ok-clause-fit
returns-in-Ok-clause-fit c =
    let s = schema_of c.args.schema.now in
    let views = views_of c.args.store.now in
    regions_fit input.seed input.size input.few s i views made (view_of c.in-Ok.answer.1)
    (c.in-Ok.ensures.direct made.facts (table input.seed input.size input.few s i views made)
    (views_direct input.seed input.size input.few s i views made))
  where
    open c use {args.input.now as input, args.legal.now as i, requires.views as made}

pub returns-in-Ok-clause-few : goal.returns-in-Ok-clause-few
returns-in-Ok-clause-few c =
    few_rows c.args.legal.now region (chosen (views_of c.args.store.now) c.in-Ok.answer.0.mask) c.in-Ok.answer.1.rows
    (ap (λ (v : View ℕ ℕ). v.rows) c.in-Ok.ensures.view)
