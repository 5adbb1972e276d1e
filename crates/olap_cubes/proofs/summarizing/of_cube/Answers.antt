use Rattle.std.proofs.Common.{◌+◌, List, subst}
use Rattle.olap_ast.specs.Trees.{numbers_of}
use Rattle.olap_base.specs.declared.ids.CatId.{CatId}
use Rattle.olap_cube_summ.specs.Dimensions.{schemas_of}
use Rattle.olap_order.{proofs.Stepping.{ended_unread, followed_unread}, specs.Judged.Replies, specs.Words.texts}
use Rattle.olap_cubes.specs.{Questions.IsAnswer, Under.cube_from}
use Rattle.olap_cubes.proofs.summarizing.of_cube.Goals as goal

pub returns-in_err-categories : goal.returns-in_err-categories
returns-in_err-categories c = record {
  replies = ended_unread c.in_err-categories.ensures.step _ _ c.from_residual.ensures.1;
}

pub returns : goal.returns
returns c = record {
  replies = followed_unread c.in_ok-categories.ensures.step _
      (subst (λ (xs : List CatId). Replies IsAnswer (cube_from (schemas_of c.args.cube.now) (c.args.at + 1)
      (numbers_of xs) (texts c.args.sources.now)) c.of_target.result) c.from_vec.ensures c.of_target.ensures.replies);
}
