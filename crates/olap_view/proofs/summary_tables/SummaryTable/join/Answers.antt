-- What stands at the members that x reaches has the summary too.
use Rattle.std.proofs.Common.{rules, arith, ℕ, IfSome, sym, subst}
use Rattle.olap_view.{proofs.SummaryTableLemmas.{joined_at, room_in, table_kept}, specs.Bounds.IsJoinable}
use Rattle.olap_view.specs.{SummaryTables.{Summarized, stands_at}, Tables.IsAmong}
use Rattle.olap_view.proofs.summary_tables.SummaryTable.join.Goals as goal

pub join-requires-clause-room : goal.join-requires-clause-room
join-requires-clause-room c =
    let a = c.self.inside in
    room_in a.legal.now a.table (subst (λ (t : Summarized). (y : ℕ) → IsAmong t.instance t.categories y
    → IfSome (stands_at t y) IsJoinable) (sym c.self.view_is) c.requires.room)

pub join-requires-clause-columns : goal.join-requires-clause-columns
join-requires-clause-columns c = search rules

pub invariant_of-self : goal.invariant_of-self
invariant_of-self c = grind (arith, table_kept)

pub returns-clause-at : goal.returns-clause-at
returns-clause-at c = grind (arith, joined_at)
