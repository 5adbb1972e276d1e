use Rattle.std.{proofs.Common.{◌+◌, map, refl, subst, sym}, specs.Prelude.Some}
use Rattle.olap_proof.proofs.{LeadingLemmas.begun, StageLemmas.bottom_none}
use Rattle.olap_proof.specs.{Asking.{names_in, question_in, schema_in}, Certificates.Open.Bottom}
use Rattle.olap_proof.specs.{Stages.{StepsTo, bottoms_from}, declared.stages.Stage.Stage}
use Rattle.olap_proof.specs.declared.stages.Stage.TheVariants as variant
use Rattle.olap_proof.proofs.stages.begin.Goals as goal

pub returns-then-not-is_bottom_line : goal.returns-then-not-is_bottom_line
returns-then-not-is_bottom_line c =
    let a = c.args.asked.now in
    bottom_none c.args.form (schema_in a) (question_in a) (names_in a) c.args.line.now c.args.root.0
    (map Bottom (bottoms_from a.graph.now (c.args.root.0 + 1)))
    (λ e. let z = c.is_bottom_line.ensures.1 e in let n = c.if-not-is_bottom_line.true in cc)

pub returns : goal.returns
returns c =
    let a = c.args.asked.now in
    subst (λ (y : Stage). StepsTo c.args.form a (variant.Bottom c.args.root) c.args.line.now (Some y))
    (sym c.move_to.ensures)
    (begun c.args.form a c.args.root c.args.line.now
    (record { root = c.args.root; place = c.in_ok-place.place; choices = c.new-2.result }) c.requires.asked
    c.requires.root (c.is_bottom_line.ensures.0 c.if-not-is_bottom_line.false) refl c.in_ok-place.ensures
    c.new-2.ensures.items)
