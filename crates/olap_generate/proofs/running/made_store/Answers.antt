use Rattle.std.{proofs.Common.{length, subst, sym}, specs.Prelude.{All, ◌<◌}}
use Rattle.olap_base.specs.{Instance.Instance, Refusing.IsRefusedBy}
use Rattle.olap_records.specs.Records.{records_of}
use Rattle.olap_schema.specs.Schemas.{schema_of}
use Rattle.olap_view.specs.{Seen.{each_view_of, views_of}, StoreText.store_read}
use Rattle.olap_generate.proofs.StoredLemmas.{store_faultless, store_made, views_categories, views_members}
use Rattle.olap_generate.proofs.running.made_store.Goals as goal

pub print_store-requires-clause-categories : goal.print_store-requires-clause-categories
print_store-requires-clause-categories c =
    let input = c.args.input.now in
    views_categories input.seed input.size input.few (schema_of c.args.schema.now) c.args.legal.now
    (each_view_of c.in_ok-views.views) c.in_ok-views.ensures.views c.graph.result.now c.graph.ensures

pub print_store-requires-clause-at_members : goal.print_store-requires-clause-at_members
print_store-requires-clause-at_members c =
    subst (λ (i : Instance). All (λ v. All (λ r. r.at < length i) v.rows) (each_view_of c.in_ok-views.views))
    (sym c.instance.ensures) (views_members (length c.args.legal.now) c.in_ok-views.views c.in_ok-views.ensures.members)

pub returns-in-Ok-clause-views : goal.returns-in-Ok-clause-views
returns-in-Ok-clause-views c =
    let input = c.args.input.now in
    store_made input.seed input.size input.few (schema_of c.args.schema.now) c.args.legal.now
    (each_view_of c.in_ok-views.views) c.in_ok-views.ensures.views c.direct_views_are_read_back.ensures
    c.graph.result.now c.graph-2.result.now c.instance.result.now c.instance-2.result.now c.in_ok-text.text
    c.bytes.result.now c.graph.ensures c.graph-2.ensures c.instance.ensures c.instance-2.ensures c.bytes.ensures
    c.in_ok-text.ensures.reads (views_of c.in-Ok.store) c.in-Ok.ensures.read

pub unreachable-requires : goal.unreachable-requires
unreachable-requires c =
    let input = c.args.input.now in
    store_faultless input.seed input.size input.few (schema_of c.args.schema.now) c.args.legal.now
    (each_view_of c.in_ok-views.views) c.in_ok-views.ensures.views c.direct_views_are_read_back.ensures
    c.graph.result.now c.graph-2.result.now c.instance.result.now c.instance-2.result.now c.in_ok-text.text
    c.bytes.result.now c.graph.ensures c.graph-2.ensures c.instance.ensures c.instance-2.ensures c.bytes.ensures
    c.in_ok-text.ensures.reads _
    (subst (λ e. IsRefusedBy e
    (store_read c.graph-2.result.now c.instance-2.result.now (records_of c.bytes.result.now)))
    c.in-Err-Kind.field-0-is c.in-Err-Kind.ensures.read)
