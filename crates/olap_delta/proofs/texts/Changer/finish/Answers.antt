-- The store after all facts of the text, or why there is none.
use Rattle.std.proofs.{Common.{subst, sym}, lemmas.Result.err_from_is_err_and}
use Rattle.olap_delta.{proofs.TextLemmas.{all-after, fact-refused, none-after}, specs.Changing.step_of}
use Rattle.olap_delta.specs.Taking.{HasTakenText, IsStoreAfter, text_change}
use Rattle.olap_delta.proofs.texts.Changer.finish.Goals as goal

pub returns-in_err-taken : goal.returns-in_err-taken
returns-in_err-taken c = λ by g i views most fed h.
    let w = text_change c.self.inside.base c.self.inside.feed c.self.inside.taken in
    let k = subst (HasTakenText by g i views most fed) (sym c.self.view_is) h in
    let stop = err_from_is_err_and c.from_residual.result c.from_residual.ensures.1 in
    rw (stop.1, stop.2) (none-after by g i views most fed w c.self.invariant k c.in_err-taken.field-0.0
    (c.in_err-taken.ensures.ended fed k.facts k.is_fed k.are))

pub returns-in-Ok : goal.returns-in-Ok
returns-in-Ok c = λ by g i views most fed h.
    let w = text_change c.self.inside.base c.self.inside.feed c.self.inside.taken in
    let k = subst (HasTakenText by g i views most fed) (sym c.self.view_is) h in
    let all = c.in_ok-taken.ensures.ended fed k.facts k.is_fed k.are in
    all-after by g i views most fed w c.self.invariant k c.in_ok-taken.taken all c.in-Ok.store
    (subst (IsStoreAfter w.change w.instance w.views all.facts) c.in-Ok.is (c.into_store.ensures all.facts all.are))

pub returns : goal.returns
returns c = λ by g i views most fed h.
    let w = text_change c.self.inside.base c.self.inside.feed c.self.inside.taken in
    let k = subst (HasTakenText by g i views most fed) (sym c.self.view_is) h in
    let all = c.in_ok-taken.ensures.ended fed k.facts k.is_fed k.are in
    fact-refused by g i views most fed w c.self.invariant k c.in_ok-taken.taken all c.in-Err.refusal c.of_fact.result
    (subst (IsStoreAfter w.change w.instance w.views all.facts) c.in-Err.is (c.into_store.ensures all.facts all.are))
    (c.of_fact.ensures (step_of w.change) w.instance w.views all.facts)
