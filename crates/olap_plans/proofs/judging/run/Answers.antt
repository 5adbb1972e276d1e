-- What comes of `generate`, which opens no file.
use Rattle.std.proofs.Common.{sym, subst}
use Rattle.olap_order.{proofs.Stepping.answered, specs.Judged.Judged}
use Rattle.olap_plans.specs.{Questions.IsAnswer, Seen.seen}
use Rattle.olap_plans.proofs.judging.run.Goals as goal

pub returns-in-Generate : goal.returns-in-Generate
returns-in-Generate g c = record {
  judged = subst (λ m. Judged IsAnswer g.L.Library c.args.lib.now c.args.lib.now (seen m) c.generate.result)
      (sym c.in-Generate.is) (answered c.generate.result c.generate.ensures.replies);
}
