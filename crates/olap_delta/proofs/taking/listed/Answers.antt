-- The listed facts go into the views, and then the others.
use Rattle.std.proofs.Common.{[], List, map, subst}
use Rattle.olap_facts.specs.Seen.{fact_of}
use Rattle.olap_view.specs.Seen.{views_of}
use Rattle.olap_delta.{proofs.DeltaLemmas.{taken_none, taken_since}, specs.Taking.AreTaken}
use Rattle.olap_facts.specs.declared.tables.Fact as told
use Rattle.olap_delta.proofs.taking.listed.Goals as goal

pub returns-clause-facts : goal.returns-clause-facts
returns-clause-facts c =
    let views = views_of c.args.base.store.now in
    let listed = map fact_of c.args.facts.items in
    let first = subst (λ (fs : List told.Fact). AreTaken (map fact_of fs) old mid) c.deref.ensures.value
    c.take_all.ensures in
    taken_since by i views listed (map fact_of c.args.more.now) mid c.take_all-2.new.self
    (taken_since by i views [] listed old mid
    (taken_none by i views old d.change d.instance d.categories d.taken d.views) first) c.take_all-2.ensures
  where
    open c use {
      args.base.change as by,
      args.base.legal.now as i,
      in_ok-delta.delta as old,
      in_ok-delta.ensures as d,
      take_all.new.self as mid,
    }
