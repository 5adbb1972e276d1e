use Rattle.std.proofs.Common.{List, ℕ, subst}
use Rattle.olap_base.specs.Views.{direct_view}
use Rattle.olap_cube.specs.CubeViews.{tuples}
use Rattle.olap_cube_views.specs.{CubeViewText.cube_view_text, Dimensions.instances_in}
use Rattle.olap_cube_summ.specs.Dimensions.{schemas_of}
use Rattle.olap_order.{proofs.Stepping.{ended, followed}, specs.Judged.Judged, specs.Order.{Told, and_then}}
use Rattle.olap_order.specs.declared.status.Status.TheVariants.{Yes}
use Rattle.olap_cubes.specs.{Questions.IsAnswer, Steps.cube_facts_file}
use Rattle.olap_cubes.proofs.viewing.of_target.Goals as goal

pub returns-in_err-columns : goal.returns-in_err-columns
returns-in_err-columns g c = record { judged = ended c.in_err-columns.ensures.step _ c.from_residual.ensures.1 }

pub returns : goal.returns
returns g c =
    let is = instances_in c.in_ok-columns.columns in
    record {
      judged = followed c.in_ok-columns.ensures.step _
          (subst (λ (cs : List ℕ). Judged IsAnswer g.L.Library c.columns_in.new.lib c.told.new.lib
          (and_then (cube_facts_file (schemas_of c.args.cube.now) is c.args.facts.now)
          (λ table. Told Yes (cube_view_text is (direct_view (tuples is) table cs)))) c.told.result)
          c.in_ok-columns.ensures.categories c.told.ensures.judged);
    }
