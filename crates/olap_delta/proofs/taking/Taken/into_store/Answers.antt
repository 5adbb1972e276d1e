-- The views of the facts that have gone into them.
use Rattle.std.proofs.Common.{subst}
use Rattle.olap_view.specs.Seen.{views_of}
use Rattle.olap_delta.{proofs.DeltaLemmas.handed_out_after, specs.Taking.AreIn, specs.declared.taking.Taken.Taken}
use Rattle.olap_delta.proofs.taking.Taken.into_store.Goals as goal

pub returns-in-Gone : goal.returns-in-Gone
returns-in-Gone c = λ facts h.
    let views = views_of b.store.now in
    handed_out_after b.change b.legal.now views facts c.in-Gone.delta
    (subst (λ (t : Taken). AreIn b.change b.legal.now views facts t) c.in-Gone.is h)
    c.into_store.result e.ok e.sound e.order e.err
  where
    open c use {args.base as b, into_store.ensures as e}
