use Rattle.std.proofs.{Common.{refl, sym, ◌∙◌}, lemmas.Bool.false_from_ne_true}
use Rattle.olap_dimsat.proofs.{TrackingLemmas.not_is, Truths.holds_at}
use Rattle.olap_dimsat.proofs.tracking.is_read.Goals as goal

pub returns-in-Yes : goal.returns-in-Yes
returns-in-Yes c = λ p f v one r a.
    sym (r.on c.args.decision.edge.0 c.requires.edge) ∙ holds_at v _ _ c.on.ensures (c.in-Yes.ensures.yes refl v a)
    ∙ sym p

pub returns-in-No : goal.returns-in-No
returns-in-No c = λ p f v one r a.
    false_from_ne_true _ (λ t. c.in-No.ensures.no refl v a (holds_at v _ _ (sym c.on.ensures)
    (r.on c.args.decision.edge.0 c.requires.edge ∙ t))) ∙ not_is c.args.decision.present p
