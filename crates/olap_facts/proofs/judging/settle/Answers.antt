-- One record more, which is a fact or has a fault.
use Rattle.std.proofs.Common.{◌∷◌, [], length, ap, length-append, arith}
use Rattle.olap_facts.proofs.FeedLemmas.{counted-pushed}
use Rattle.olap_facts.proofs.PendingLemmas.{settled-all, settled-fault, settled-more, settled-none}
use Rattle.olap_facts.{proofs.TableLemmas.table-pushed, specs.Seen.fact_of}
use Rattle.olap_facts.proofs.judging.settle.Goals as goal

pub records-init : goal.records-init
records-init c =
    let s = c.args.setting in
    record {
      more = omega arith;
      few = omega (arith, c.requires.few);
      table = λ t. t;
      counts = λ rows done facts are h. settled-none s.most s.graph.now s.instance.now c.args.handed rows done _ h;
    }

pub records-preserved : goal.records-preserved
records-preserved c = let items = c.in_ok-push-in-Ok.ensures.items in record {
  more = omega (arith, ap length items, length-append old (f ∷ []), inv.more);
  few = omega (arith, c.in-Ok.ensures.few);
  table = λ t.
      table-pushed _ f items s.graph.now s.instance.now (inv.table t) c.in-Ok.ensures.member c.in-Ok.ensures.bottom;
  counts = λ rows done facts are h.
      counted-pushed _ facts f items
      (settled-more _ _ _ c.args.handed c.records.k rows done _ (inv.counts rows done facts are h)
      c.args.pending.now are (omega (arith, c.len-k-end.ensures, c.records-test.true)) _ c.id.ensures c.index.ensures
      (fact_of f) c.in-Ok.ensures.fact);
}
  where
    open c use {args.setting as s, records.invariant as inv, records.batch.items as old, in-Ok.fact as f}

pub returns-in-Err-clause-counts : goal.returns-in-Err-clause-counts
returns-in-Err-clause-counts c = λ rows done facts are h left.
    settled-fault _ _ _ c.args.handed c.records.k rows done _ (c.records.invariant.counts rows done facts are h)
    c.args.pending.now are (omega (arith, c.len-k-end.ensures, c.records-test.true)) _ c.id.ensures c.index.ensures
    c.in-Err.kind c.in-Err.ensures.fact left

pub returns-clause-counts : goal.returns-clause-counts
returns-clause-counts c = λ rows done facts are h.
    let s = c.args.setting in
    settled-all s.most s.graph.now s.instance.now c.args.handed c.records.k rows done _ c.args.pending.now are
    (omega arith) (c.records.invariant.counts rows done facts are h)
