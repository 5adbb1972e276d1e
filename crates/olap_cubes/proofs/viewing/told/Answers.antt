-- The step of the facts, and then the text of their view.
use Rattle.std.proofs.Common.{ap, ◌∙◌}
use Rattle.olap_base.specs.Views.{direct_view}
use Rattle.olap_cube.specs.CubeViews.{tuples}
use Rattle.olap_cube_views.specs.{CubeViewText.cube_view_text, Dimensions.{categories_in, instances_in}}
use Rattle.olap_order.{proofs.Replying.told_shown, proofs.Stepping.{answered, ended, followed}, specs.Order.Told}
use Rattle.olap_order.specs.declared.status.Status.TheVariants.{Yes}
use Rattle.olap_cubes.proofs.FilesLemmas.{judged_no_memory}
use Rattle.olap_cubes.proofs.viewing.told.Goals as goal

pub returns-in_err-view : goal.returns-in_err-view
returns-in_err-view g c = record { judged = ended c.in_err-view.ensures.step _ c.from_residual.ensures.1 }

pub returns-in_err-text : goal.returns-in_err-text
returns-in_err-text g c = record {
  judged = judged_no_memory c.from_residual-in_err-text.result c.from_residual-in_err-text.ensures.1
      c.in_ok-view.ensures.step.step.later;
}

pub returns : goal.returns
returns g c =
    let is = instances_in c.args.columns.now in
    let read = c.in_ok-view.ensures.step in
    let direct = direct_view (tuples is) read.facts (categories_in c.args.columns.now) in
    let text = c.yes.ensures.bytes ∙ c.into_bytes.ensures ∙ c.in_ok-text.ensures.text
    ∙ ap (cube_view_text is) read.direct in
    record {
      judged = followed read.step
          (λ table. Told Yes (cube_view_text is (direct_view (tuples is) table (categories_in c.args.columns.now))))
          (answered _ (told_shown (cube_view_text is direct) c.yes.result c.yes.ensures.status text));
    }
