-- One row more, after those that may have been joined.
use Rattle.std.proofs.{Common.{◌∷◌, ◌++◌, ◌+◌, [], sym, ap, subst, ◌∙◌, rules, w64}, lemmas.Int.to_z-of_z}
use Rattle.std.proofs.lemmas.List.{map-append}
use Rattle.olap_base.specs.Summaries.{of_value, ◌⊕◌}
use Rattle.olap_cube_views.proofs.SumLemmas.{summary-append, within_push}
use Rattle.olap_cube_views.specs.{CubeTallies.{Entry, IsWithin, entries_of, summary_at}, Seen.entry_of}
use mir.Val.{SFits}
use Rattle.olap_cube_views.proofs.sums.Sums.add.Goals as goal

pub returns-clause-ok : goal.returns-clause-ok
returns-clause-ok c = λ q.
    let fits : SFits w64 c.args.value = search rules in
    let e : Entry = (c.args.members.places, of_value c.args.value) in
    let row = c.row.ensures ∙ ap (λ v. (c.args.members.places, of_value v)) (to_z-of_z w64 c.args.value fits) in
    ap (λ es. summary_at es q) (ap entries_of c.in_ok-push.ensures.items ∙ map-append entry_of made (c.row.result ∷ []))
    ∙ ap (λ (d : Entry). summary_at (entries_of made ++ d ∷ []) q) row
    ∙ summary-append (entries_of made) (e ∷ []) q
    ∙ ap (λ t. t ⊕ summary_at (e ∷ []) q) (c.make_room.ensures.same q)
    ∙ sym (summary-append (entries_of old) (e ∷ []) q)
  where
    open c use {make_room.new.self.rows.items as made, args.self.now.rows.items as old}

pub returns-clause-within : goal.returns-clause-within
returns-clause-within c = λ n w.
    let fits : SFits w64 c.args.value = search rules in
    let made = c.make_room.new.self.rows.items in
    let row = c.row.ensures ∙ ap (λ v. (c.args.members.places, of_value v)) (to_z-of_z w64 c.args.value fits) in
    subst (IsWithin (n + 1))
    (sym (ap entries_of c.in_ok-push.ensures.items ∙ map-append entry_of made (c.row.result ∷ [])
    ∙ ap (λ (d : Entry). entries_of made ++ d ∷ []) row))
    (within_push n (entries_of made) c.args.members.places c.args.value fits (c.make_room.ensures.within n w))
