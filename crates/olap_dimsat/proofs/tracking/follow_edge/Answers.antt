use Rattle.std.proofs.{Common.{refl, sym, ◌∙◌}, lemmas.Bool.false_from_ne_true}
use Rattle.olap_dimsat.proofs.Truths.{holds_at}
use Rattle.olap_dimsat.proofs.tracking.follow_edge.Goals as goal

pub add-requires-clause-reads : goal.add-requires-clause-reads
add-requires-clause-reads c = λ f v one r a.
    sym (r.on c.args.e.0 c.requires.edge) ∙ holds_at v _ _ c.on.ensures (c.in-Yes.ensures.yes refl v a)

pub add-requires-in-No-clause-reads : goal.add-requires-in-No-clause-reads
add-requires-in-No-clause-reads c = λ f v one r a.
    false_from_ne_true _ (λ t. c.in-No.ensures.no refl v a
    (holds_at v _ _ (sym c.on.ensures) (r.on c.args.e.0 c.requires.edge ∙ t)))
