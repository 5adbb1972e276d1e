use Rattle.std.{proofs.Common.{◌≡◌, true, ap, subst, ◌∙◌}, specs.Prelude.slice_set}
use Rattle.olap_graph.specs.Lookups.{edge_at}
use Rattle.olap_schema.specs.Schemas.{schema_of}
use Rattle.olap_summ.proofs.SightLemmas.{edge_keeps, seen_chosen}
use Rattle.olap_summ.proofs.seeing.Seen.mark_edge.Goals as goal

pub returns-clause-seen : goal.returns-clause-seen
returns-clause-seen c =
    seen_chosen (schema_of c.args.schema.now) c.args.found.now c.constraints-valid.ensures.valid.hierarchy
    c.requires.root c.requires.witness old _ c.args.e.0 child parent c.requires.edge c.requires.chosen
    (subst (λ g. edge_at g c.args.e.0 ≡ record { child = child; parent = parent }) c.graph.ensures c.ends.ensures.edge)
    (ap (λ n. slice_set (slice_set old.categories.items n true) c.from-3.result true) c.from-2.ensures
    ∙ ap (λ n. slice_set (slice_set old.categories.items child true) n true) c.from-3.ensures)
    (ap (λ n. slice_set old.edges.items n true) c.from.ensures) c.requires.seen
  where
    open c use {args.self.now as old, ends.result.0.0 as child, ends.result.1.0 as parent}

pub returns-clause-kept : goal.returns-clause-kept
returns-clause-kept c =
    let old = c.args.self.now in
    edge_keeps c.args.e.0 c.ends.result.0.0 c.ends.result.1.0 old _
    (ap (λ n. slice_set (slice_set old.categories.items n true) c.from-3.result true) c.from-2.ensures
    ∙ ap (λ n. slice_set (slice_set old.categories.items c.ends.result.0.0 true) n true) c.from-3.ensures)
    (ap (λ n. slice_set old.edges.items n true) c.from.ensures)
