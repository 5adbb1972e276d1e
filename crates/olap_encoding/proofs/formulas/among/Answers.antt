-- One name after the other.
use Rattle.std.proofs.Common.{◌<◌, length, subst, ap}
use Rattle.olap_names.specs.Names.{others_of}
use Rattle.olap_encoding.proofs.{NameLemmas.constants_still, OutLemmas.category_still}
use Rattle.olap_encoding.proofs.formulas.among.Goals as goal

pub among_more-requires-clause-category : goal.among_more-requires-clause-category
among_more-requires-clause-category c = category_still c.names.invariant.next.later c.args.d.0 c.requires.category

pub among_more-requires-clause-place : goal.among_more-requires-clause-place
among_more-requires-clause-place c =
    let q = ap length c.others-count.ensures.list in
    let h : c.names.j < length (others_of c.args.e.now.question.candidates.now c.args.d.0) =
    subst (λ n. c.names.j < n) q c.names-test.true in
    constants_still c.names.invariant.next.later c.args.d.0 c.names.j h
