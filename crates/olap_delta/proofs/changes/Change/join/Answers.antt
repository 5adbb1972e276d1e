-- The member that is reached, if there is one.
use Rattle.std.proofs.{Common.{rules, arith, Option, Some, get_or, refl, subst}, lemmas.Grind.common_steps}
use Rattle.olap_base.specs.Summaries.{Summary}
use Rattle.olap_view.specs.Seen.{summary_of}
use Rattle.olap_delta.proofs.ChangingLemmas.{put_storable}
use Rattle.olap_delta.proofs.JoinedTableLemmas.{joined_none, joined_some, once_none, once_some}
use Rattle.olap_delta.specs.Joining.{IsJoined}
use Rattle.olap_delta.proofs.changes.Change.join.Goals as goal

pub returns-in-Some-of_lot-clause-once : goal.returns-in-Some-of_lot-clause-once
returns-in-Some-of_lot-clause-once c = search (rules, once_some)

pub returns-in-Some-of_lot-clause-joined : goal.returns-in-Some-of_lot-clause-joined
returns-in-Some-of_lot-clause-joined c = λ t.
    joined_some c.args.self (get_or c.args.table.now.categories c.args.k 0) c.args.lot.member.0
    (summary_of c.args.lot.summary) c.args.table.now c.in-Some.y.0 c.in-Some.ensures.some
    (summary_of c.in-Some-of_lot.summary) c.put.new.self (record {
      instance = c.put.ensures.instance;
      categories = c.put.ensures.categories;
      at = c.put.ensures.at;
    })
    (subst (λ (o : Option Summary). IsJoined c.args.self o (Some (summary_of c.args.lot.summary))
    (Some (summary_of c.in-Some-of_lot.summary))) c.at.ensures c.in-Some-of_lot.ensures.joined)

pub returns-in-Some-of_lot-clause-storable : goal.returns-in-Some-of_lot-clause-storable
returns-in-Some-of_lot-clause-storable c = grind (arith, common_steps, put_storable)

pub returns-in_default-clause-once : goal.returns-in_default-clause-once
returns-in_default-clause-once c = λ t.
    once_none c.args.table.now.instance (get_or c.args.table.now.categories c.args.k 0) c.args.lot.member.0
    (c.in_default.ensures.none refl)

pub returns-in_default-clause-joined : goal.returns-in_default-clause-joined
returns-in_default-clause-joined c = λ t.
    joined_none c.args.self (get_or c.args.table.now.categories c.args.k 0) c.args.lot.member.0
    (summary_of c.args.lot.summary) c.args.table.now (c.in_default.ensures.none refl)
