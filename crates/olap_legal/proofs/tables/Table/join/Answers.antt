-- The row is joined at the slots, and nothing stands elsewhere.
use Rattle.std.proofs.Common.{◌≡◌, ◌+◌, ◌<◌, ℕ, length, get_or, ap, ◌∙◌}
use Rattle.olap_legal.{proofs.LayingLemmas.{row_joined, start_read}, specs.Slots.{count_of, order_of}}
use Rattle.olap_legal.proofs.tables.Table.join.Goals as goal

pub returns-clause-each : goal.returns-clause-each
returns-clause-each c = λ good.
    let start = start_read t c.requires.laid c.requires.x c.index.ensures in
    let size = c.reached-reached.ensures.len ∙ ap (count_of t.slots) c.category.ensures in
    let each : (k : ℕ) → k < length reached → get_or reached k 0 ≡ order_of c.args.categories t.slots _ k =
    λ k l. c.reached-reached.ensures.each k l ∙ ap (λ w. order_of c.args.categories t.slots w k) c.category.ensures in
    row_joined t c.requires.laid c.requires.x reached size each c.part-cells.result.now c.args.row.now c.join.new.row
    (λ k l. c.part-cells.ensures.each k l ∙ ap (λ w. get_or w (c.index.result.now + k) 0) c.deref.ensures.value
    ∙ ap (λ w. get_or t.cells.items (w + k) 0) start)
    (c.join.ensures.each good) (c.join.ensures.others good)
  where
    open c use {args.self.now as t, reached-reached.result.now as reached}
