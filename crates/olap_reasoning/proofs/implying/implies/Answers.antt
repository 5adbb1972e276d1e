use Rattle.olap_order.proofs.Stepping.{ended_unread, followed_unread}
use Rattle.olap_reasoning.proofs.implying.implies.Goals as goal

pub returns-in_err-root : goal.returns-in_err-root
returns-in_err-root c = record {
  replies = ended_unread c.in_err-root.ensures.step _ _ c.from_residual.ensures.1;
}

pub returns-in_err-formula : goal.returns-in_err-formula
returns-in_err-formula c = record {
  replies = followed_unread c.in_ok-root.ensures.step _
      (ended_unread c.in_err-formula.ensures.step _ _ c.from_residual-in_err-formula.ensures.1);
}

pub returns : goal.returns
returns c = record {
  replies = followed_unread c.in_ok-root.ensures.step _
      (followed_unread c.in_ok-formula.ensures.step _ c.answered.ensures.replies);
}
