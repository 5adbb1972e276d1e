-- A whole text is one piece.
use Rattle.std.proofs.{Common.{◌∙◌, [], ℕ, List, ap, subst}, lemmas.List.append-nil, lemmas.Result.err_from_is_err_and}
use Rattle.olap_base.specs.{Limits.most_listed_facts, Refusing.IsRefusedBy}
use Rattle.olap_facts.specs.FactText.{facts_read}
use Rattle.olap_records.specs.Standing.{records_fed}
use Rattle.olap_view.specs.Seen.{views_of}
use Rattle.olap_delta.specs.{Changing.step_of, Reading.views_changed, Taking.IsStoreAfterAll}
use Rattle.olap_delta.proofs.texts.change_by_text.Goals as goal

pub returns-in_err-changer-clause-err : goal.returns-in_err-changer-clause-err
returns-in_err-changer-clause-err c =
    let views = views_of c.args.store.now in
    let stop = err_from_is_err_and c.from_residual.result c.from_residual.ensures.1 in
    rw (stop.1, stop.2)
    (subst (λ (rs : List (List (List ℕ))). IsRefusedBy e (views_changed (step_of by) i views (facts_read g i rs)))
    (ap records_fed (append-nil piece ∙ c.without_mark.ensures)
    ∙ c.records_are_those_at_the_end.ensures c.args.text.now)
    (c.in_err-changer.ensures.takes by g i views most_listed_facts [] c.new-changer.ensures []))
  where
    open c use {
      args.change as by,
      args.graph.now as g,
      args.legal.now as i,
      in_err-changer.field-0.0 as e,
      without_mark.result.now as piece,
    }

pub returns : goal.returns
returns c =
    let views = views_of c.args.store.now in
    let after = subst (λ (rs : List (List (List ℕ))). IsStoreAfterAll by i views (facts_read g i rs) c.finish.result)
    (ap records_fed c.without_mark.ensures ∙ c.records_are_those_at_the_end.ensures c.args.text.now)
    (c.finish.ensures by g i views most_listed_facts piece
    (c.in_ok-changer.ensures.takes by g i views most_listed_facts [] c.new-changer.ensures)) in
    record { ok = after.ok; sound = after.sound; order = after.order; err = after.err }
  where
    open c use {args.change as by, args.graph.now as g, args.legal.now as i, without_mark.result.now as piece}
