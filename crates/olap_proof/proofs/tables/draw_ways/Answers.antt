-- One category more is taken.
use Rattle.std.proofs.{Common.{◌≡◌, ◌<◌, ◌∙◌, length, ap, refl, subst, arith}, Math.ListN.length-set}
use Rattle.std.specs.FinSet.{union}
use Rattle.olap_bits.specs.Sets.{members}
use Rattle.olap_graph.proofs.RowLemmas.{row_read}
use Rattle.olap_proof.{proofs.DrawingLemmas.{draws_all, draws_none}, specs.Seen.LeadsHere, specs.Tables.Draws}
use Rattle.olap_proof.specs.Walking.{SeenFrom}
use Rattle.olap_proof.proofs.tables.draw_ways.Goals as goal

pub categories-init : goal.categories-init
categories-init c = record {
  count = refl;
  drawn = λ g lie.
      draws_none g (SeenFrom (LeadsHere c.args.ways.now) 0) c.args.rows.now
      (λ x y s. absurd (let l = s.0 in omega (arith, l)));
}

pub categories-preserved : goal.categories-preserved
categories-preserved c =
    let inside : i < length mid = omega (arith, c.categories.invariant.count, c.categories-test.true) in
    record {
      count = length-set mid i c.union.result ∙ c.categories.invariant.count;
      drawn = λ g lie.
          draws_all g (LeadsHere ways) i c.args.rows.now mid c.union.result c.from.result
          (c.categories.invariant.drawn g lie) inside
          (c.union.ensures ∙ ap (λ s. union s (members c.from.result))
          (row_read mid i c.index-rows-c.result inside c.index-rows-c.is)) c.from.ensures lie;
    }
  where
    open c use {args.ways.now as ways, categories.c as i, categories.rows as mid}

pub returns-clause-drawn : goal.returns-clause-drawn
returns-clause-drawn c = λ g lie.
    let end : c.categories.c ≡ length c.args.rows.now =
    omega (arith, c.categories.auto.c-end, c.categories-test.false) in
    subst (λ n. Draws g (SeenFrom (LeadsHere c.args.ways.now) n) c.args.rows.now c.categories.rows) end
    (c.categories.invariant.drawn g lie)
