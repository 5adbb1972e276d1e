use Rattle.std.{proofs.Common.{true, ap, refl}, specs.Prelude.slice_set}
use Rattle.olap_schema.specs.Schemas.{schema_of}
use Rattle.olap_summ.proofs.SightLemmas.{root_keeps, root_marked, seen_root}
use Rattle.olap_summ.proofs.seeing.Seen.mark_root.Goals as goal

pub returns-clause-seen : goal.returns-clause-seen
returns-clause-seen c =
    let old = c.args.self.now in
    seen_root (schema_of c.args.schema.now) c.args.found.now c.requires.witness old _
    (ap (λ n. slice_set old.categories.items n true) c.from.ensures) refl c.requires.seen

pub returns-clause-root : goal.returns-clause-root
returns-clause-root c =
    let old = c.args.self.now in
    root_marked (schema_of c.args.schema.now) c.args.found.now.frozen.root.0 old _ c.requires.seen c.requires.root
    (ap (λ n. slice_set old.categories.items n true) c.from.ensures)

pub returns-clause-kept : goal.returns-clause-kept
returns-clause-kept c =
    let old = c.args.self.now in
    root_keeps c.args.found.now.frozen.root.0 old _ (ap (λ n. slice_set old.categories.items n true) c.from.ensures)
    refl
