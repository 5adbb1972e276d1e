-- One row more.
use Rattle.std.proofs.Common.{◌≡◌, ◌<◌, ℕ, List, Some, None, cond, length, get_or, map, take, pos, ap, sym, subst, ◌∙◌, arith}
use Rattle.std.{proofs.lemmas.List.{get_or-map, length-map, take-map, take_all}, specs.Option.option_or}
use Rattle.std.specs.Prelude.{◌==◌, All, AllPairs, Contains}
use Rattle.olap_base.specs.{Instance.{Instance, IsMemberOf}, Summaries.Summary, Views.Row}
use Rattle.olap_view.proofs.{SeenLemmas.{each_row, rows_more_is}, SummaryTableLemmas.{filled_more, not_before}}
use Rattle.olap_view.specs.{Seen.{row_of, rows_of, view_of}, Stores.{IsInFileOrder, summary_in}}
use Rattle.olap_view.specs.{SummaryTables.stands_at, Tables.IsAmong}
use Rattle.olap_view.specs.declared.views.Row as told_row
use Rattle.olap_view.specs.declared.views.View as told_view
use Rattle.olap_view.proofs.summary_tables.SummaryTable.fill.Goals as goal

-- what rows have past their end
nobody : told_row.Row
nobody = record { member = record { 0 = 0 }; count = 0; sum = pos 0; least = pos 0; greatest = pos 0 }

module _ (v : told_view.View) (read : List told_row.Row) (k : ℕ) (d : told_row.Row) (i : Instance)
    (o : IsInFileOrder i (view_of v)) (same : read ≡ v.rows) (h : k < length read) where
  -- the k-th row stands at a member of the view's category
  at_member : IsMemberOf i v.category.0 (get_or read k d).member.0
  at_member = each_row (λ r. IsMemberOf i v.category.0 r.at) read k d h
      (subst (λ (l : List told_row.Row). All (λ r. IsMemberOf i v.category.0 r.at) (rows_of l)) (sym same)
      o.members)

  -- and none before it does at that one
  none_before : summary_in (rows_of (take k read)) (get_or read k d).member.0 ≡ None
  none_before =
      let long = length-map read row_of in
      let first = not_before (rows_of read) k (row_of d)
      (subst (λ (l : List told_row.Row). AllPairs ◌<◌ (map (λ r. r.at) (rows_of l))) (sym same) o.ascend)
      (omega arith) in
      subst (λ l. summary_in l (get_or read k d).member.0 ≡ None) (take-map row_of k read)
      (subst (λ (r : Row ℕ). summary_in (take k (rows_of read)) r.at ≡ None)
      (get_or-map row_of read k d (row_of d) h) first)

pub put-requires : goal.put-requires
unfolding nobody
put-requires c =
    let inv = c.rows.invariant in
    let m = at_member c.args.view.now c.items-row-items.result.now c.rows.row-index nobody c.args.self.now.instance
    c.requires.order c.items-row-items.ensures c.rows-test.true in record {
      among = subst (λ (i : Instance). IsAmong i c.rows.self.categories
          (get_or c.items-row-items.result.now c.rows.row-index nobody).member.0) (sym inv.instance)
          (subst (λ (cs : List ℕ). IsAmong c.args.self.now.instance cs
          (get_or c.items-row-items.result.now c.rows.row-index nobody).member.0) (sym inv.categories)
          (record { member = m.0; category = subst (Contains c.args.self.now.categories) (sym m.1) c.requires.among }));
    }

pub rows-preserved : goal.rows-preserved
unfolding nobody
rows-preserved c =
    let row = get_or read k nobody in
    record {
      instance = c.put.ensures.instance ∙ inv.instance;
      categories = c.put.ensures.categories ∙ inv.categories;
      at = λ y m. subst
          (λ (l : List (Row ℕ)). stands_at c.put.new.self y ≡ option_or (summary_in l y) (stands_at c.args.self.now y))
          (sym (rows_more_is read k nobody c.rows-test.true))
          (filled_more (rows_of (take k read)) (row_of row) y (stands_at c.args.self.now y) (stands_at c.rows.self y)
          (stands_at c.put.new.self y)
          (none_before c.args.view.now read k nobody c.args.self.now.instance c.requires.order c.items-row-items.ensures
          c.rows-test.true) (inv.at y m)
          (c.put.ensures.at y (subst (λ (i : Instance). IsAmong i c.rows.self.categories y) (sym inv.instance)
          (subst (λ (cs : List ℕ). IsAmong c.args.self.now.instance cs y) (sym inv.categories) m))
          ∙ ap (λ (s : Summary). cond (y == row.member.0) (Some s) (stands_at c.rows.self y)) c.summary.ensures));
    }
  where
    open c use {rows.invariant as inv, rows.row-index as k, items-row-items.result.now as read}

pub returns-clause-at : goal.returns-clause-at
returns-clause-at c = grind (arith, take_all)
