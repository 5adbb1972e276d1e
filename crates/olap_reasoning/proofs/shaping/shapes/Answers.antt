use Rattle.olap_order.proofs.Stepping.{ended_unread, followed_unread}
use Rattle.olap_reasoning.proofs.shaping.shapes.Goals as goal

pub returns-in_err-category : goal.returns-in_err-category
returns-in_err-category c = record {
  replies = ended_unread c.in_err-category.ensures.step _ _ c.from_residual.ensures.1;
}

pub returns : goal.returns
returns c = record { replies = followed_unread c.in_ok-category.ensures.step _ c.answered.ensures.replies }
