use Rattle.std.proofs.{Common.{refl, sym, ◌∙◌}, lemmas.Bool.false_from_ne_true}
use Rattle.olap_dimsat.proofs.Truths.{holds_at}
use Rattle.olap_dimsat.proofs.reading.absent.Goals as goal

pub returns-in-No-clause-absent : goal.returns-in-No-clause-absent
returns-in-No-clause-absent c = λ f v one r a.
    let e = c.present-present.ensures in
    false_from_ne_true _ (λ t. c.in-No.ensures.no refl v a
    (holds_at v _ _ (sym e) (r.present c.args.c.0 c.requires.category ∙ t)))
