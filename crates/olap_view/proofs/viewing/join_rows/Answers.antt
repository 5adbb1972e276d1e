-- One row more.
use Rattle.std.proofs.Common.{◌≤◌, ◌*◌, ◌++◌, ◌∷◌, [], List, length, get_or, take, ap, sym, subst, ◌∙◌, arith, pos, append_assoc, length-append}
use Rattle.std.{proofs.lemmas.List.Elements.{All-append, All-take}, specs.Prelude.{ℕ, All}}
use Rattle.olap_base.specs.{Limits.{most_members, most_views}, Reaching.reaches, Summaries.◌⊕◌, Views.Row}
use Rattle.olap_view.proofs.MergingLemmas.{holds_room, merged_more, stored_small}
use Rattle.olap_view.{proofs.SeenLemmas.{each_row, rows_more_is, rows_of_taken, rows_taken}, specs.Bounds.IsJoinable}
use Rattle.olap_view.specs.{Merging.AreMerged, Seen.{row_of, rows_of}, Stores.IsStored, SummaryTables.stands_at}
use Rattle.olap_view.specs.Tables.{when}
use Rattle.olap_view.specs.declared.views.Row as told
use Rattle.olap_view.proofs.viewing.join_rows.Goals as goal

nothing : told.Row
nothing = record { member = record { 0 = 0 }; count = 0; sum = pos 0; least = pos 0; greatest = pos 0 }

pub join-requires-clause-member : goal.join-requires-clause-member
unfolding nothing
join-requires-clause-member c = grind (arith, nothing)

pub join-requires-clause-this : goal.join-requires-clause-this
unfolding nothing
join-requires-clause-this c =
    subst IsJoinable (sym c.summary.ensures)
    (stored_small (row_of (get_or rows k nothing))
    (each_row IsStored rows k nothing c.rows-test.true c.requires.stored))
  where
    open c use {args.rows.now as rows, rows.row-index as k}

pub join-requires-clause-room : goal.join-requires-clause-room
join-requires-clause-room c =
    let few : length (q.rows ++ rows_of (take k rows)) ≤ most_views * most_members =
    let l = rows_taken rows k in let s = c.requires.short in let f = q.few in
    omega (arith, length-append q.rows (rows_of (take k rows))) in
    holds_room (q.rows ++ rows_of (take k rows)) c.rows.table few
    (All-append IsStored q.rows (rows_of (take k rows)) q.stored
    (subst (All IsStored) (rows_of_taken rows k) (All-take IsStored k (rows_of rows) c.requires.stored)))
    (c.rows.invariant.merged q.rows q.merged)
  where
    open c use {args.rows.now as rows, rows.row-index as k, requires.few as q}

pub rows-preserved : goal.rows-preserved
unfolding nothing
rows-preserved c =
    let r = row_of (get_or rows k nothing) in
    record {
      instance = j.instance ∙ inv.instance;
      categories = j.categories ∙ inv.categories;
      merged = λ earlier m.
          let old = rows_of (take k rows) in
          subst (λ (l : List (Row ℕ)). AreMerged l u)
          (append_assoc earlier old (r ∷ [])
          ∙ ap (λ (l : List (Row ℕ)). earlier ++ l) (sym (rows_more_is rows k nothing c.rows-test.true)))
          (merged_more (earlier ++ old) r t u j.instance j.categories
          (λ y h. j.at y h
          ∙ ap (λ s. stands_at t y ⊕ when (reaches t.instance r.at y) s) c.summary.ensures)
          (inv.merged earlier m));
    }
  where
    open c use {
      args.rows.now as rows,
      rows.row-index as k,
      rows.invariant as inv,
      rows.table as t,
      join.new.self as u,
      join.ensures as j,
    }
