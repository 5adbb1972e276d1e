use Rattle.std.proofs.Common.{ℕ, ◌∷◌, [], Bool, Option, true, false, Some, None, refl, ap, sym, ◌∙◌}
use Rattle.std.{proofs.lemmas.List.map-append, specs.Prelude.◌==◌}
use Rattle.olap_base.specs.{Instance.category_of, Views.{Row, members, row_at, total_of_facts}}
use Rattle.olap_plain.proofs.PlainLemmas.{rows_step, passes, fails, none_of}
use Rattle.olap_plain.proofs.viewing.direct.Goals.{then-members-y+in-Some+in_ok-push, then-members-y+in_default, else-members-y}
use Rattle.olap_plain.specs.Plain.{instance_of, facts_of, rows_of, row_of, as_row}
use Rattle.olap_plain.proofs.viewing.direct.Goals as goal

pub loop-y-preserved : goal.loop-y-preserved
loop-y-preserved c =
    let i = instance_of ms in
    let h = λ (y : ℕ). row_at y (total_of_facts (members i) (facts_of c.args.facts.now) y) in
    let step = λ (b : Bool) (o : Option (Row ℕ)).
    rows_step h (λ y. category_of i y == k) y b o (rows_of rows.items) c.loop-y.invariant in
    elim c.if-members-y.branch [
      | then-members-y+in-Some+in_ok-push w ↦
          ap (λ v. rows_of v.items) w.rows-is ∙ ap rows_of w.in_ok-push.ensures.items
          ∙ map-append row_of rows.items (w.in-Some.r ∷ [])
          ∙ step true (Some (row_of w.in-Some.r)) (passes ms y k d inside w.if-members-y.true)
          (ap as_row (sym w.in-Some.is) ∙ w.row_at.ensures)
      | then-members-y+in_default w ↦ ap (λ v. rows_of v.items) w.rows-is
          ∙ step true None (passes ms y k d inside w.if-members-y.true)
          (sym (none_of w.row_at.result (λ r e. w.in_default.not-Some r e)) ∙ w.row_at.ensures)
      | else-members-y w ↦ ap (λ v. rows_of v.items) w.rows-is
          ∙ step false (h y) (fails ms y k d inside w.if-members-y.false) refl
    ]
  where
    open c use {args.members.now as ms, args.c as k, loop-y.y, loop-y.rows, index-members-y.result as d}
    open c use {loop-y-test.true as inside}
