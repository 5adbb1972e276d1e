use Rattle.std.proofs.Common.{List, ap, length, subst, ◌∙◌}
use Rattle.olap_base.specs.declared.ids.CatId.{CatId}
use Rattle.olap_cube_summ.specs.Dimensions.{schemas_of}
use Rattle.olap_order.{proofs.Stepping.{ended, followed, unread}, specs.Judged.Judged, specs.Words.texts}
use Rattle.olap_view.specs.Seen.{ids}
use Rattle.olap_cubes.{proofs.DimensionLemmas.target_fits, specs.Questions.IsAnswer, specs.Under.cubeview_from}
use Rattle.olap_cubes.proofs.viewing.of_cube.Goals as goal

pub returns-in_err-target : goal.returns-in_err-target
returns-in_err-target g c = record {
  judged = ended (unread _ c.in_err-target.ensures.step) _ c.from_residual.ensures.1;
}

pub of_target-requires-clause-target : goal.of_target-requires-clause-target
of_target-requires-clause-target g c =
    ap length c.deref.ensures.value ∙ target_fits (schemas_of c.args.cube.now) c.in_ok-target.target.items
    c.in_ok-target.ensures.categories

pub returns : goal.returns
returns g c = record {
  judged = followed (unread _ c.in_ok-target.ensures.step) _
      (subst (λ (xs : List CatId). Judged IsAnswer g.L.Library c.args.lib.now c.of_target.new.lib
      (cubeview_from (schemas_of c.args.cube.now) (ids xs) (texts c.args.instances.now) c.args.facts.now)
      c.of_target.result) c.deref.ensures.value c.of_target.ensures.judged);
}
