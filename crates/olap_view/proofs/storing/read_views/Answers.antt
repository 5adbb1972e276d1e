-- The views of the table are those that the records stand for.
use Rattle.std.{proofs.Common.{arith, subst, sym}, proofs.lemmas.Grind.common_steps, specs.Prelude.All}
use Rattle.olap_view.{proofs.StoreLemmas.{views-ordered, views-sound, views-told}, specs.Stores.IsInFileOrder}
use Rattle.olap_view.proofs.storing.read_views.Goals as goal

pub returns-clause-read : goal.returns-clause-read
returns-clause-read c = grind (arith, views-told)

pub returns-clause-sound : goal.returns-clause-sound
returns-clause-sound c = grind (arith, common_steps, views-sound)

pub returns-clause-order : goal.returns-clause-order
returns-clause-order c =
    let i = c.args.instance.now in
    subst (All (IsInFileOrder i)) (sym c.in_ok-views.ensures.views)
    (views-ordered c.args.graph.now i c.args.rows.now.left c.read_rows.new.table c.in_ok-read_rows.ensures.1)
