-- The table stands where what waited is joined.
use Rattle.std.{proofs.Common.{rules, arith, ap, sym, subst, ◌∙◌}, specs.Prelude.Contains}
use Rattle.olap_base.specs.Summaries.{◌⊕◌}
use Rattle.olap_view.proofs.TallyLemmas.{table_within, tallied_is, view_stored, waiting_within}
use Rattle.olap_view.specs.{SummaryTables.stands_at, Tallies.{IsTableOf, Tallied, Waiting, tallied, waiting_at}}
use Rattle.olap_view.proofs.tallies.Tally.into_table.Goals as goal

pub join_waiting-requires-clause-members : goal.join_waiting-requires-clause-members
join_waiting-requires-clause-members c = search rules

pub join_waiting-requires-clause-table : goal.join_waiting-requires-clause-table
join_waiting-requires-clause-table c =
    let a = c.self.inside in table_within a.table a.waiting.items a.added c.self.invariant

pub join_waiting-requires-clause-waiting : goal.join_waiting-requires-clause-waiting
join_waiting-requires-clause-waiting c = grind (arith, waiting_within)

pub returns-clause-table : goal.returns-clause-table
returns-clause-table c =
    subst (λ (t : Tallied). IsTableOf t c.join_waiting.new.table) c.self.view_is (record {
      instance = j.instance;
      categories = j.categories;
      at = λ y m. j.at y m
          ∙ ap (λ (ws : Waiting). stands_at a.table y ⊕ waiting_at a.table.instance ws y) c.deref.ensures.value
          ∙ sym (tallied_is a.table a.waiting.items a.added y m.member);
    })
  where
    open c use {self.inside as a, join_waiting.ensures as j}

pub returns-clause-fit : goal.returns-clause-fit
returns-clause-fit c = λ d k.
    view_stored (tallied a.table a.waiting.items a.added) c.join_waiting.new.table (record {
      instance = j.instance;
      categories = j.categories;
      at = λ y m. j.at y m
          ∙ ap (λ (ws : Waiting). stands_at a.table y ⊕ waiting_at a.table.instance ws y) c.deref.ensures.value
          ∙ sym (tallied_is a.table a.waiting.items a.added y m.member);
    }) d q.facts (subst (λ (t : Tallied). Contains t.categories d) (sym c.self.view_is) k) q.few q.values q.stands
  where
    open c use {self.inside as a, self.invariant as q, join_waiting.ensures as j}
