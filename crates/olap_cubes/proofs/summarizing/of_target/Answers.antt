use Rattle.std.proofs.Common.{List, subst}
use Rattle.olap_cube.specs.{Told.{tuple_of, tuples_in}, declared.tuples.Tuple.Tuple}
use Rattle.olap_cube_summ.specs.Dimensions.{schemas_of}
use Rattle.olap_order.{proofs.Stepping.{ended_unread, followed_unread}, specs.Judged.Replies, specs.Order.Done}
use Rattle.olap_cubes.specs.Questions.{ByCube, IsAnswer}
use Rattle.olap_cubes.proofs.summarizing.of_target.Goals as goal

pub returns-in_err-sources : goal.returns-in_err-sources
returns-in_err-sources c = record {
  replies = ended_unread c.in_err-sources.ensures.step _ _ c.from_residual.ensures.1;
}

pub returns : goal.returns
returns c = record {
  replies = followed_unread c.in_ok-sources.ensures.step _
      (subst (λ (ys : List Tuple). Replies IsAnswer (Done (ByCube (schemas_of c.args.cube.now)
      (tuple_of c.args.target.now) (tuples_in ys))) c.told.result) c.deref.ensures.value c.told.ensures.replies);
}
