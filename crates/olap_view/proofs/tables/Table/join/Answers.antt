-- One category more.
use Rattle.std.proofs.Common.{◌≡◌, ◌<◌, ℕ, List, length, get_or, take, ap, sym, subst, ◌∙◌, arith, Option, IfSome}
use Rattle.std.{proofs.lemmas.List.{get_or-map, length-map}, specs.Prelude.Contains}
use Rattle.olap_base.specs.{Summaries.Summary, declared.ids.CatId.CatId}
use Rattle.olap_view.{proofs.TableLemmas.{id_fresh, id_in, ids_more, so_far_step, untouched}, specs.Bounds.IsJoinable}
use Rattle.olap_view.specs.{Seen.{ids, summary_of}, Tables.{IsAmong, JoinedSoFar, categories_of}}
use Rattle.olap_view.proofs.tables.Table.join.Goals as goal

pub join_in-requires-clause-column : goal.join_in-requires-clause-column
join_in-requires-clause-column c = grind (arith, length-map, get_or-map)

pub join_in-requires-clause-room : goal.join_in-requires-clause-room
join_in-requires-clause-room c = λ y m e.
    let same : c.categories.self.categories.items ≡ t.categories.items = ap (λ v. v.items) j.same_categories in
    let is : d ≡ get_or t.categories.items k d = c.index-c.ensures ∙ ap (λ (l : List CatId). get_or l k d) same in
    let h : c.categories.k < length c.args.self.now.categories.items =
    let o = c.args.self.now.categories.ok in let q = c.categories-test.true in omega arith in
    let in_it = id_in t.categories.items k d h is in
    let among : IsAmong i (categories_of t) y =
    record { member = m; category = subst (Contains (categories_of t)) (sym e) in_it } in
    subst (λ (o : Option Summary). IfSome o IsJoinable)
    (sym (untouched i (ids (take k t.categories.items)) d.0 c.args.x.0 (summary_of c.args.summary) t c.categories.self j
    (id_fresh t.categories.items k d h is c.requires.differ) y among e))
    (c.requires.room d.0 in_it y m e)
  where
    open c use {
      args.legal.now as i,
      args.self.now as t,
      categories.invariant as j,
      categories.k,
      index-c.result.now as d,
    }

pub categories-preserved : goal.categories-preserved
categories-preserved c =
    let s = summary_of c.args.summary in
    let same : c.categories.self.categories.items ≡ t.categories.items = ap (λ v. v.items) j.same_categories in
    let is : d ≡ get_or t.categories.items k d = c.index-c.ensures ∙ ap (λ (l : List CatId). get_or l k d) same in
    let h : c.categories.k < length c.args.self.now.categories.items =
    let o = c.args.self.now.categories.ok in let q = c.categories-test.true in omega arith in
    subst (λ (l : List ℕ). JoinedSoFar i l c.args.x.0 s t c.join_in.new.self)
    (sym (ids_more t.categories.items k d h is))
    (so_far_step i (ids (take k t.categories.items)) d.0 c.args.x.0 s t c.categories.self j
    (id_fresh t.categories.items k d h is c.requires.differ) c.join_in.new.self c.join_in.ensures)
  where
    open c use {
      args.legal.now as i,
      args.self.now as t,
      categories.invariant as j,
      categories.k,
      index-c.result.now as d,
    }
