-- What the lots make of the views is what their facts make of them, and the table's views are a store, in file order.
use Rattle.std.{proofs.Common.{◌≡◌, List, ap, sym, subst, ◌∙◌}, specs.Prelude.{ℕ, All, Ok}}
use Rattle.olap_base.specs.{Instance.Instance, Views.View}
use Rattle.olap_view.specs.{Seen.views_of, Stores.{IsInFileOrder, IsSoundStore}, SummaryTables.views_at}
use Rattle.olap_delta.proofs.JoinedTableLemmas.{table_changed}
use Rattle.olap_delta.proofs.{StorableLemmas.{table_order, table_sound, table_storable}, StoreChangedLemmas.store_is}
use Rattle.olap_delta.specs.{Changing.step_of, FactByFact.facts_changed, Joining.AreJoined, Lots.StandFor}
use Rattle.olap_delta.specs.declared.lots.Lot.{Lot}
use Rattle.olap_delta.proofs.joining.joined.Goals as goal

pub join_all-requires-clause-storable : goal.join_all-requires-clause-storable
join_all-requires-clause-storable c =
    table_storable c.in_ok-table.table (views_of c.args.store.now) c.in_ok-table.ensures.views c.requires.fit

pub returns-then-join_all : goal.returns-then-join_all
returns-then-join_all c = λ facts s.
    let stored = views_of c.args.store.now in
    let i : new.instance ≡ legal = j.instance ∙ e.instance in
    let is = sym c.in_ok-views.ensures.views in
    record {
      ok = store_is (step_of by) legal stored facts
          ∙ ap (λ (n : Instance). facts_changed (step_of by) n stored facts) (sym e.instance)
          ∙ ap (λ (vs : List (View ℕ ℕ)). facts_changed (step_of by) old.instance vs facts) (sym e.views)
          ∙ table_changed by facts c.args.lots old new j.instance j.categories
          (subst (λ (n : Instance). StandFor n facts c.args.lots) (sym e.instance) s)
          (subst (λ (ls : List Lot). AreJoined by ls old new) c.deref.ensures.value (j.joined c.if-join_all.true))
          ∙ ap (λ (vs : List (View ℕ ℕ)). Ok vs) is;
      sound = λ g q. subst (λ (vs : List (View ℕ ℕ)). IsSoundStore g legal vs) is
          (subst (λ (n : Instance). IsSoundStore g n (views_at new)) i
          (table_sound g new stored (j.categories ∙ e.categories) j.storable
          (subst (λ (n : Instance). IsSoundStore g n stored) (sym i) q)));
      order = subst (λ (vs : List (View ℕ ℕ)). All (IsInFileOrder legal) vs) is
          (subst (λ (n : Instance). All (IsInFileOrder n) (views_at new)) i (table_order new));
      err = tt;
    }
  where
    open c use {
      args.change as by,
      args.legal.now as legal,
      in_ok-table.table as old,
      in_ok-table.ensures as e,
      join_all.new.table as new,
      join_all.ensures as j,
    }
