-- One rung after the other.
use Rattle.olap_encoding.proofs.{Growing.{next_on, says_still}, LadderLemmas.{given_highest, count_still, given_lowest}}
use Rattle.olap_encoding.proofs.{NameLemmas.constants_still, OutLemmas.category_still}
use Rattle.olap_encoding.specs.EncoderInside.{encoding_of}
use Rattle.std.proofs.Common.{◌<◌, subst}
use Rattle.olap_encoding.proofs.naming.ladder.Goals as goal

pub clause-requires-clause-given : goal.clause-requires-clause-given
clause-requires-clause-given c =
    let s = c.in_ok-below.ensures in
    let n = c.rung_variable.ensures.next in
    given_lowest (encoding_of c.rung_variable.new.e) n.sound c.present-there.result c.in_ok-below.below c.args.c.0
    (category_still n.later c.args.c.0 c.requires.category) c.present-there.ensures s.says

pub rungs-init : goal.rungs-init
rungs-init c = record {
  next = next_on c.rung_variable.ensures.next c.clause.ensures.next;
  says = says_still c.clause.ensures.next.later c.in_ok-below.ensures.says;
}

pub rung-requires-clause-category : goal.rung-requires-clause-category
rung-requires-clause-category c = category_still c.rungs.invariant.next.later c.args.c.0 c.requires.category

pub rung-requires-clause-place : goal.rung-requires-clause-place
rung-requires-clause-place c =
    constants_still c.rungs.invariant.next.later c.args.c.0 c.rungs.j
    (subst (λ n. c.rungs.j < n) c.requires.count c.rungs-test.true)

pub rungs-preserved : goal.rungs-preserved
rungs-preserved c =
    record { next = next_on c.rungs.invariant.next c.in_ok-next.ensures.next; says = c.in_ok-next.ensures.says }

pub clause-requires-2-clause-given : goal.clause-requires-2-clause-given
clause-requires-2-clause-given c =
    let n = c.rungs.invariant.next in
    given_highest (encoding_of c.rungs.e) n.sound c.rungs.below c.args.c.0 c.rungs.j
    (category_still n.later c.args.c.0 c.requires.category)
    (count_still n c.args.c.0 c.args.count c.rungs.j c.requires.count c.rungs-test.false) c.rungs.invariant.says

pub returns : goal.returns
returns c = record { next = next_on c.rungs.invariant.next c.clause-2.ensures.next }
