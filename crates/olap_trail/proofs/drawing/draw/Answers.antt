-- One set more is copied and grown.
use Rattle.std.proofs.Common.{◌+◌, refl, arith}
use Rattle.olap_bits.specs.Sets.{members}
use Rattle.olap_graph.proofs.RowLemmas.{row_at}
use Rattle.olap_trail.proofs.StageLemmas.{copied_more}
use Rattle.olap_trail.proofs.drawing.draw.Goals as goal

pub categories-preserved : goal.categories-preserved
categories-preserved g c =
    copied_more c.args.rows.now rows c.args.place c.args.count c.args.c x (c.args.place + c.args.count + x)
    (members c.args.through.now) c.grown.result copied c.categories-test.true c.requires.room refl
    (rw (row_at rows (c.args.place + x) c.index-rows-place.result
    (omega (arith, copied.same_length, c.requires.room, c.categories-test.true))) at c.grown.ensures)
  where
    open c use {categories.rows, categories.x, categories.invariant as copied}
