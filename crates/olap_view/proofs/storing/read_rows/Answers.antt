-- One record more, which passes or has the first fault.
use Rattle.std.proofs.Common.{◌++◌, ◌∷◌, [], arith, length-append}
use Rattle.olap_records.proofs.Seeing.{see-more}
use Rattle.olap_view.specs.StoreText.{store_fault}
use Rattle.olap_view.proofs.storing.read_rows.Goals as goal

pub rows-preserved : goal.rows-preserved
rows-preserved c =
    let left = rw c.if-branch.true at c.in_ok-advance.ensures in
    let says = c.in-Ok.ensures.judged seen inv.told in
    record {
      seen = seen ++ row ∷ [];
      has_seen = see-more (store_fault g i) c.args.rows.now.left seen c.rows.rows.left c.advance.new.self.left row
          inv.has_seen left says.0;
      told = c.in_ok-enter-in-Ok.ensures g i seen row inv.told says.1;
      at = let e = inv.at in omega (arith, length-append seen (row ∷ []));
    }
  where
    open c use {
      args.graph.now as g,
      args.instance.now as i,
      rows.invariant as inv,
      rows.invariant.seen,
      advance.new.self.row,
    }
