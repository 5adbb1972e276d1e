-- One member more, which gives a row or none.
use Rattle.std.proofs.Common.{◌<◌, ℕ, ◌∷◌, [], List, length, true, false, Option, Some, None, refl, ap, sym, subst, ◌∙◌, arith}
use Rattle.std.{proofs.lemmas.List.map-append, proofs.lemmas.List.Elements.All-push, specs.Option.option_map}
use Rattle.std.specs.Prelude.{◌==◌, All}
use Rattle.olap_base.{proofs.GeneralLemmas.none_from_never, specs.Instance.category_of, specs.Views.{Row, row_at}}
use Rattle.olap_view.proofs.ViewingLemmas.{fails, list_step, passes}
use Rattle.olap_view.proofs.tables.Table.view.Goals.{then-category-c+in-Some+in_ok-push, then-category-c+in_default, else-category-c}
use Rattle.olap_view.specs.{Seen.{row_of, rows_of}, Tables.summary_at}
use Rattle.olap_view.specs.declared.views.Row as told
use Rattle.olap_view.proofs.tables.Table.view.Goals as goal

pub rows-preserved : goal.rows-preserved
rows-preserved c =
    let t = c.args.self.now in
    let h : ℕ → Option (Row ℕ) = λ y. row_at y (summary_at t y) in
    let p = λ (y : ℕ). category_of i y == c.args.c.0 in
    let y = c.rows.y in
    let old = rows_of c.rows.rows.items in
    let inside : c.rows.y < length c.args.instance.now = let t = c.rows-test.true in let e =
    c.members-y-end.ensures.count in omega arith in
    elim c.if-category-c.branch [
      | then-category-c+in-Some+in_ok-push w ↦
          let items = w.in_ok-push.ensures.items in
          let new = w.in-Some.row in
          let at : w.in-Some.row.member.0 < length c.args.instance.now = let e = w.in-Some.ensures.member in
          omega arith in
          record {
            so_far = ap (λ v. rows_of v.items) w.rows-is ∙ ap rows_of items
                ∙ map-append row_of c.rows.rows.items (new ∷ [])
                ∙ list_step h p y true (Some (row_of new)) old c.rows.invariant.so_far
                (passes c.category.result.0 (category_of i y) c.args.c.0 c.category.ensures w.if-category-c.true)
                (w.in-Some.ensures.row ∙ ap (row_at y) w.at.ensures);
            members = subst (λ (l : List told.Row). All (λ r. r.member.0 < length i) l)
                (sym (ap (λ v. v.items) w.rows-is ∙ items))
                (All-push (λ (r : told.Row). r.member.0 < length i) c.rows.rows.items new members at);
          }
      | then-category-c+in_default w ↦ record {
        so_far = ap (λ v. rows_of v.items) w.rows-is
            ∙ list_step h p y true None old c.rows.invariant.so_far
            (passes c.category.result.0 (category_of i y) c.args.c.0 c.category.ensures w.if-category-c.true)
            (sym (ap (option_map row_of) (none_from_never w.row.result w.in_default.not-Some)) ∙ w.row.ensures.row
            ∙ ap (row_at y) w.at.ensures);
        members = subst (λ (l : List told.Row). All (λ r. r.member.0 < length i) l)
            (sym (ap (λ v. v.items) w.rows-is)) members;
      }
      | else-category-c w ↦ record {
        so_far = ap (λ v. rows_of v.items) w.rows-is
            ∙ list_step h p y false (h y) old c.rows.invariant.so_far
            (fails c.category.result.0 (category_of i y) c.args.c.0 c.category.ensures w.if-category-c.false) refl;
        members = subst (λ (l : List told.Row). All (λ r. r.member.0 < length i) l)
            (sym (ap (λ v. v.items) w.rows-is)) members;
      }
    ]
  where
    open c use {args.instance.now as i, rows.invariant.members}
