-- One member more, at which a summary waits or nothing.
use Rattle.std.proofs.Common.{◌+◌, sym, subst}
use Rattle.olap_view.proofs.JoinedWaitingLemmas.{HasJoined, joined_none, joined_some}
use Rattle.olap_view.{proofs.tallies.join_waiting.Goals.{in-Some, in_default}, specs.SummaryTables.Summarized}
use Rattle.olap_view.proofs.tallies.join_waiting.Goals as goal

pub members-preserved : goal.members-preserved
members-preserved c =
    elim c.match-waiting-x.branch [
      | in-Some w ↦ subst (λ (u : Summarized). HasJoined t u ws (x + 1)) (sym w.table-is)
          (joined_some t c.members.table ws x c.members-test.true c.members.invariant w.join.new.self w.in-Some.summary
          w.in-Some.is w.join.ensures.instance w.join.ensures.categories
          w.join.ensures.at c.requires.waiting)
      | in_default w ↦ subst (λ (u : Summarized). HasJoined t u ws (x + 1)) (sym w.table-is)
          (joined_none t c.members.table ws x c.members-test.true c.members.invariant
          w.in_default.is c.requires.waiting)
    ]
  where
    open c use {args.table.now as t, args.waiting.now as ws, members.x}
