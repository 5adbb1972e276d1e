-- One clause more.
use Rattle.std.proofs.Common.{below_more}
use Rattle.olap_parities.{proofs.EntryLemmas.covers_more, specs.Entries.Covers}
use Rattle.olap_parities.proofs.entries.enter_all.Goals as goal

pub ids-preserved : goal.ids-preserved
ids-preserved c = λ v t knows.
    let new = c.enter.new.entries.items in
    below_more (Covers v new) c.ids.k
    (λ row h. covers_more v c.ids.entries.items new row c.enter.ensures.kept (c.ids.invariant v t knows row h))
    (c.enter.ensures.covered c.if-not-enter.false v knows (c.clause.ensures v t))
