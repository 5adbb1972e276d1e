-- A word that is no number ends the order; else what is made answers.
use Rattle.olap_order.proofs.Stepping.{ended_unread, followed_unread}
use Rattle.olap_plans.proofs.generating.generate.Goals as goal

pub returns-in_err-seed : goal.returns-in_err-seed
returns-in_err-seed c = record {
  replies = ended_unread c.in_err-seed.ensures _ c.from_residual.result c.from_residual.ensures.1;
}

pub returns-in_err-size : goal.returns-in_err-size
returns-in_err-size c = record {
  replies = followed_unread c.in_ok-seed.ensures _
      (ended_unread c.in_err-size.ensures.step _
      c.from_residual-in_err-size.result c.from_residual-in_err-size.ensures.1);
}

pub returns : goal.returns
returns c = record {
  replies = followed_unread c.in_ok-seed.ensures _
      (followed_unread c.in_ok-size.ensures.step _ c.answered.ensures.replies);
}
