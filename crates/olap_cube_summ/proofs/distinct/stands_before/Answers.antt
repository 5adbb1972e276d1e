use Rattle.std.proofs.Common.{◌≡◌, ◌∙◌, false, true, sym, inl, inr, arith}
use Rattle.olap_base.proofs.GeneralLemmas.{below_or_same}
use Rattle.olap_cube_summ.proofs.TupleLemmas.{tuple_at}
use Rattle.olap_cube_summ.proofs.distinct.stands_before.Goals as goal

pub earlier-preserved : goal.earlier-preserved
earlier-preserved c = λ i l e.
    let ts = c.args.sources.now in
    let there = tuple_at ts c.earlier.j c.index-sources-j.result
    (let m = c.earlier-test.true in let k = c.requires in omega arith)
    c.index-sources-j.is in
    let here = tuple_at ts c.args.k c.index-sources-k.result c.requires c.index-sources-k.is in
    elim (below_or_same i c.earlier.j (omega arith)) [
      | inl m ↦ c.earlier.invariant i m e
      | inr q ↦ absurd (let z : false ≡ true = sym c.if-is_same.false
          ∙ c.is_same.ensures.1 (sym there ∙ rw q at e ∙ here) in cc)
    ]
