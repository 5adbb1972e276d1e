-- One row more, which is joined or comes after.
use Rattle.std.proofs.{Common.{◌+◌, ◌<◌, ◌≤◌, length, sym, ap, subst, ◌∙◌, arith}, lemmas.Bool.Decides.Decides-eqb}
use Rattle.std.proofs.lemmas.{List.{length-map, take-map}, Slice.Eq.slice_eq-Decides}
use Rattle.std.specs.{List.Sorted.IsStrictlySortedBy, Map.keys_of}
use Rattle.olap_base.specs.Limits.{most_count}
use Rattle.olap_cube_views.proofs.SumLemmas.{end_order, end_same, end_within, row_room, step_joined, step_moved}
use Rattle.olap_cube_views.proofs.sums.join_neighbours.Goals.{then-eq, else-eq}
use Rattle.olap_cube_views.specs.{CubeTallies.{IsWithin, entries_of, key_cmp, summary_at}, Seen.entry_of}
use Rattle.olap_cube_views.proofs.sums.join_neighbours.Goals as goal

pub joined-requires-clause-this : goal.joined-requires-clause-this
joined-requires-clause-this c =
    (row_room c.args.rows.now c.rows.rows c.rows.last c.rows.next most_count _ c.rows.invariant (omega arith)
    c.requires.within (omega arith)).0

pub joined-requires-clause-that : goal.joined-requires-clause-that
joined-requires-clause-that c =
    (row_room c.args.rows.now c.rows.rows c.rows.last c.rows.next most_count _ c.rows.invariant (omega arith)
    c.requires.within (omega arith)).1

pub rows-preserved : goal.rows-preserved
rows-preserved c =
    let here : c.rows.next < length old = omega arith in
    let same = slice_eq-Decides Decides-eqb _ _ _ c.eq.ensures in
    elim c.if-eq.branch [
      | then-eq w ↦ rw (w.rows-is, w.last-is)
          (step_joined old now c.rows.last c.rows.next most_count _ w.joined.result c.rows.invariant here
          c.requires.within (same.0 w.if-eq.true) w.joined.ensures)
      | else-eq w ↦ rw (w.rows-is, w.last-is)
          (step_moved old now c.rows.last c.rows.next most_count _ c.requires.sorted c.rows.invariant here
          c.requires.within (λ e. cc (same.1 e, w.if-eq.false)))
    ]
  where
    open c use {args.rows.now as old, rows.rows as now}

pub returns-clause-same : goal.returns-clause-same
returns-clause-same c = λ q.
    let old = entries_of c.args.rows.now in
    let lo = length-map c.args.rows.now entry_of in
    let all : length old ≤ c.rows.next = omega arith in
    ap (λ es. summary_at es q) (sym (take-map entry_of (c.rows.last + 1) c.rows.rows))
    ∙ end_same old (entries_of c.rows.rows) c.rows.last c.rows.next c.rows.invariant all q

pub returns-clause-within : goal.returns-clause-within
returns-clause-within c = λ n w.
    let old = entries_of c.args.rows.now in
    let lo = length-map c.args.rows.now entry_of in
    let all : length old ≤ c.rows.next = omega arith in
    subst (IsWithin n) (take-map entry_of (c.rows.last + 1) c.rows.rows)
    (end_within old (entries_of c.rows.rows) c.rows.last c.rows.next c.rows.invariant all n w)

pub returns-clause-order : goal.returns-clause-order
returns-clause-order c =
    let old = entries_of c.args.rows.now in
    let lo = length-map c.args.rows.now entry_of in
    let all : length old ≤ c.rows.next = omega arith in
    subst (λ es. IsStrictlySortedBy key_cmp (keys_of es)) (take-map entry_of (c.rows.last + 1) c.rows.rows)
    (end_order old (entries_of c.rows.rows) c.rows.last c.rows.next c.rows.invariant all)
