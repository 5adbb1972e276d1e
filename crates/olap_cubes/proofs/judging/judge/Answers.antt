use Rattle.std.proofs.Common.{◌∙◌}
use Rattle.olap_order.{proofs.Joining.{of_none, of_some}, specs.Words.texts}
use Rattle.olap_cubes.{proofs.CutLemmas.cut_is, proofs.WordLemmas.seen_is_no_usage, specs.Seen.seen}
use Rattle.olap_cubes.proofs.judging.judge.Goals as goal

pub returns-in-None : goal.returns-in-None
returns-in-None g c = record {
  judged = of_none seen (c.in-None.ensures.order ∙ cut_is c.args.name.now (texts c.args.words.now));
}

pub returns-in-Some : goal.returns-in-Some
returns-in-Some g c = record {
  judged = of_some seen c.in-Some.command
      (c.in-Some.ensures.order ∙ cut_is c.args.name.now (texts c.args.words.now))
      (seen_is_no_usage c.in-Some.command c.in-Some.ensures.files) c.run.ensures.judged;
}
