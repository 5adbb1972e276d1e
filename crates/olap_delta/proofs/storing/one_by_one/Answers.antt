-- All of them were taken.
use Rattle.std.{proofs.Common.{[], List, subst}, specs.Prelude.map}
use Rattle.olap_facts.specs.Seen.{fact_of, facts_of}
use Rattle.olap_view.specs.Seen.{views_of}
use Rattle.olap_delta.{proofs.DeltaLemmas.{handed_out_after, taken_none, taken_since}, specs.Taking.AreTaken}
use Rattle.olap_facts.specs.declared.tables.Fact as told
use Rattle.olap_delta.proofs.storing.one_by_one.Goals as goal

pub returns : goal.returns
returns c =
    let views = views_of c.args.store.now in
    let all = subst (λ (fs : List told.Fact). AreTaken (map fact_of fs) old new) c.items.ensures c.take_all.ensures in
    handed_out_after by i views (facts_of c.args.facts.now) new
    (taken_since by i views [] (facts_of c.args.facts.now) old new
    (taken_none by i views old d.change d.instance d.categories d.taken d.views) all)
    c.into_store.result e.ok e.sound e.order e.err
  where
    open c use {
      args.change as by,
      args.legal.now as i,
      in_ok-delta.delta as old,
      in_ok-delta.ensures as d,
      take_all.new.self as new,
      into_store.ensures as e,
    }
