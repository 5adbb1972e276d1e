use Rattle.olap_order.proofs.Joining.{of_none, of_some}
use Rattle.olap_verdicts.{proofs.WordLemmas.seen_is_no_usage, specs.Seen.seen}
use Rattle.olap_verdicts.proofs.judging.judge.Goals as goal

pub returns-in-None : goal.returns-in-None
returns-in-None g c = record { judged = of_none seen c.in-None.ensures }

pub returns-in-Some : goal.returns-in-Some
returns-in-Some g c = record {
  judged = of_some seen c.in-Some.command c.in-Some.ensures (seen_is_no_usage c.in-Some.command) c.run.ensures.judged;
}
