-- A variable, and four clauses of the name and the rungs below and above it.
use Rattle.olap_encoding.proofs.Growing.{next_on, says_still}
use Rattle.olap_encoding.proofs.LadderLemmas.{given_up, given_reaches, given_above, given_between}
use Rattle.olap_encoding.proofs.{NameLemmas.constants_still, OutLemmas.category_still}
use Rattle.olap_encoding.specs.EncoderInside.{encoding_of}
use Rattle.olap_encoding.proofs.naming.rung.Goals as goal

pub name-l-requires-clause-category : goal.name-l-requires-clause-category
name-l-requires-clause-category c =
    category_still c.rung_variable.ensures.next.later c.args.c.0 c.requires.category

pub name-l-requires-clause-place : goal.name-l-requires-clause-place
name-l-requires-clause-place c =
    constants_still c.rung_variable.ensures.next.later c.args.c.0 c.args.j c.requires.place

pub clause-requires-clause-given : goal.clause-requires-clause-given
clause-requires-clause-given c =
    let b = says_still c.rung_variable.ensures.next.later c.requires.below in
    given_up (encoding_of c.rung_variable.new.e) c.args.c.0 c.args.j c.args.below c.in_ok-upto.upto c.name-l.result
    b c.in_ok-upto.ensures.says c.name-l.ensures c.negated-not_below.result c.negated-not_below.ensures

pub clause-requires-2-clause-given : goal.clause-requires-2-clause-given
clause-requires-2-clause-given c =
    let b = says_still c.rung_variable.ensures.next.later c.requires.below in
    let n = c.clause.ensures.next.later in
    given_reaches (encoding_of c.clause.new.self) c.args.c.0 c.args.j c.args.below c.in_ok-upto.upto c.name-l.result
    (says_still n b) (says_still n c.in_ok-upto.ensures.says) (says_still n c.name-l.ensures)
    c.negated-not_l.result c.negated-not_l.ensures

pub clause-requires-3-clause-given : goal.clause-requires-3-clause-given
clause-requires-3-clause-given c =
    let b = says_still c.rung_variable.ensures.next.later c.requires.below in
    let n = (next_on c.clause.ensures.next c.clause-2.ensures.next).later in
    given_above (encoding_of c.clause-2.new.self) c.args.c.0 c.args.j c.args.below c.in_ok-upto.upto c.name-l.result
    (says_still n b) (says_still n c.in_ok-upto.ensures.says) (says_still n c.name-l.ensures)
    c.negated-not_l.result c.negated-not_below.result c.negated-not_l.ensures c.negated-not_below.ensures

pub clause-requires-4-clause-given : goal.clause-requires-4-clause-given
clause-requires-4-clause-given c =
    let b = says_still c.rung_variable.ensures.next.later c.requires.below in
    let n = (next_on c.clause.ensures.next (next_on c.clause-2.ensures.next c.clause-3.ensures.next)).later in
    given_between (encoding_of c.clause-3.new.self) c.args.c.0 c.args.j c.args.below c.in_ok-upto.upto c.name-l.result
    (says_still n b) (says_still n c.in_ok-upto.ensures.says) (says_still n c.name-l.ensures)
    c.negated-not_upto.result c.negated-not_upto.ensures

pub returns-clause-next : goal.returns-clause-next
returns-clause-next c =
    next_on c.rung_variable.ensures.next (next_on c.clause.ensures.next (next_on c.clause-2.ensures.next
    (next_on c.clause-3.ensures.next c.clause-4.ensures.next)))

pub returns-clause-says : goal.returns-clause-says
returns-clause-says c =
    says_still (next_on c.clause.ensures.next (next_on c.clause-2.ensures.next
    (next_on c.clause-3.ensures.next c.clause-4.ensures.next))).later c.in_ok-upto.ensures.says
