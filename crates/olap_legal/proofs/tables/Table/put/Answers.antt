-- The row is written at its slots, and the others stand apart from them.
use Rattle.std.proofs.{Common.{◌≡◌, ◌+◌, ◌<◌, ℕ, drop, length, get_or, refl, ap, sym, ◌∙◌}, lemmas.List.take_at}
use Rattle.std.specs.Vec.{with_items}
use Rattle.olap_legal.proofs.LayingLemmas.{cell_other, laid_same, row_written, start_read}
use Rattle.olap_legal.specs.{Slots.{count_of, order_of}, declared.tables.Table.Table}
use Rattle.olap_legal.proofs.tables.Table.put.Goals as goal

pub returns-clause-here : goal.returns-clause-here
returns-clause-here c =
    let after : Table = record { slots = t.slots; starts = t.starts; cells = with_items t.cells cells } in
    let size_kept = c.write.ensures.same_length ∙ c.deref_mut.ensures.len in
    let now = take_at cells (drop (length cells) t.cells.items) t.cells.len size_kept in
    let laid = laid_same t after c.requires.laid refl refl
    (ap length now ∙ c.write.ensures.same_length ∙ ap length c.deref_mut.ensures.value) in
    let start = start_read t c.requires.laid c.requires.x c.index.ensures in
    let size = c.reached-reached.ensures.len ∙ ap (count_of t.slots) c.category.ensures in
    let each : (k : ℕ) → k < length reached → get_or reached k 0 ≡ order_of c.args.categories t.slots _ k =
    λ k l. c.reached-reached.ensures.each k l ∙ ap (λ w. order_of c.args.categories t.slots w k) c.category.ensures in
    row_written after laid c.requires.x reached size each c.args.row.now c.requires.fits
    (λ k l. ap (λ w. get_or w (get_or t.starts.items c.args.x 0 + k) 0) now
    ∙ ap (λ w. get_or cells (w + k) 0) (sym start) ∙ c.write.ensures.here k l)
  where
    open c use {args.self.now as t, reached-reached.result.now as reached, write.new.cells}

pub returns-clause-others : goal.returns-clause-others
returns-clause-others c =
    let after : Table = record { slots = t.slots; starts = t.starts; cells = with_items t.cells cells } in
    let size_kept = c.write.ensures.same_length ∙ c.deref_mut.ensures.len in
    let now = take_at cells (drop (length cells) t.cells.items) t.cells.len size_kept in
    let start = start_read t v h c.index.ensures in
    let size = c.reached-reached.ensures.len ∙ ap (count_of t.slots) c.category.ensures in
    cell_other t after v h refl refl
    (ap length now ∙ c.write.ensures.same_length ∙ ap length c.deref_mut.ensures.value)
    (λ k l. ap (λ w. get_or w k 0) now ∙ c.write.ensures.before k (rw start l)
    ∙ ap (λ w. get_or w k 0) c.deref_mut.ensures.value)
    (λ k l. ap (λ w. get_or w k 0) now ∙ c.write.ensures.after k (rw (start, size) l)
    ∙ ap (λ w. get_or w k 0) c.deref_mut.ensures.value)
  where
    open c use {args.self.now as t, requires.x as h, requires.laid as v, write.new.cells}
