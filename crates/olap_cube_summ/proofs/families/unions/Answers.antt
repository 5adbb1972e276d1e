use Rattle.std.proofs.Common.{◌≡◌, ◌+◌, suc, sym, arith}
use Rattle.olap_cube_summ.proofs.FamilyLemmas.{unions_next}
use Rattle.olap_cube_summ.proofs.families.unions.Goals as goal

pub dimensions-preserved : goal.dimensions-preserved
dimensions-preserved c = record {
  unions = let z : c.dimensions.i + 1 ≡ suc c.dimensions.i = omega arith in rw (z, c.in_ok-push.ensures.items)
      (unions_next c.args.dimensions.now c.dimensions.i c.dimensions.sets.items c.index-dimensions-i.result
      c.union-set.result c.dimensions-test.true (sym c.index-dimensions-i.is) c.dimensions.invariant.unions
      (rw c.items.ensures at c.union-set.ensures));
}
