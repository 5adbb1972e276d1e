use Rattle.std.{proofs.Common.{◌<◌, ◌∙◌, ap, sym, length, arith}, specs.FinSet.{contains, union}}
use Rattle.olap_bits.specs.Sets.{members}
use Rattle.olap_graph.proofs.RowLemmas.{pass_more, pass_skip, row_at, row_read}
use Rattle.olap_graph.{proofs.reaching.pass.Goals.{then-has, else-has}, specs.Rows.row}
use Rattle.olap_graph.proofs.reaching.pass.Goals as goal

pub categories-preserved : goal.categories-preserved
categories-preserved c =
    let inside : at < length new = omega (arith, c.categories.invariant.count) in
    let has = ap (λ s. contains s k) (sym (row_at new at c.index-rows-c.result inside)) ∙ sym c.has.ensures in
    elim c.if-has.branch [
      | then-has w ↦ rw w.rows-is (pass_more old new k at w.union.result (has ∙ w.if-has.true) inside
          (w.union.ensures ∙ ap (λ s. union s (members c.index-rows-from.result))
          (row_read new at w.index-rows-c-then-has.result inside w.index-rows-c-then-has.is) ∙ ap (union (row new at))
          (row_read old c.from.result c.index-rows-from.result (omega arith) c.index-rows-from.is
          ∙ ap (row old) c.from.ensures)) c.categories.invariant)
      | else-has w ↦ rw w.rows-is (pass_skip old new k at (has ∙ w.if-has.false) c.categories.invariant)
    ]
  where
    open c use {args.rows.now as old, args.k, categories.rows as new, categories.c as at}
