use Rattle.std.proofs.{Common.{refl, sym, ◌∙◌}, lemmas.Bool.false_from_ne_true}
use Rattle.olap_dimsat.proofs.{ReadLemmas.bit_present, Truths.{holds_at, not_both}}
use Rattle.olap_dimsat.proofs.reading.read_edge.Goals as goal

pub returns-in-Yes-clause-is : goal.returns-in-Yes-clause-is
returns-in-Yes-clause-is c = λ f v one r a.
    sym (r.on c.args.e.0 c.requires.edge) ∙ holds_at v _ _ c.on-on.ensures (c.in-Yes.ensures.yes refl v a)

pub returns-in-No-clause-is : goal.returns-in-No-clause-is
returns-in-No-clause-is c = λ f v one r a.
    false_from_ne_true _ (λ t. c.in-No.ensures.no refl v a
    (holds_at v _ _ (sym c.on-on.ensures) (r.on c.args.e.0 c.requires.edge ∙ t)))

pub returns-in_ok-absent-in-Unknown-clause-is : goal.returns-in_ok-absent-in-Unknown-clause-is
returns-in_ok-absent-in-Unknown-clause-is c = λ f v one r a.
    false_from_ne_true _ (λ t. not_both _
    (bit_present c.args.a.now.question.graph.now c.args.a.now.question.root.0 f.edges c.args.e.0 c.ends.result.0.0
    c.ends.result.1.0
    c.requires.edge c.ends.ensures.edge t) (c.in_ok-absent-in-Unknown.ensures.absent f v one r a))
