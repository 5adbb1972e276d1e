-- A new variable and its clauses.
use Rattle.olap_encoding.proofs.{Growing.{next_on, says_still}, NodeLemmas.{given_first, given_second, given_both}}
use Rattle.olap_encoding.specs.EncoderInside.{encoding_of}
use Rattle.olap_encoding.proofs.nodes.gate.Goals as goal

pub clause-requires-clause-given : goal.clause-requires-clause-given
clause-requires-clause-given c =
    given_first (encoding_of c.variable.new.self) c.in_ok-o.o c.args.a c.args.b c.in_ok-o.ensures.says
    c.negated-not_o.result c.negated-not_o.ensures

pub clause-requires-2-clause-given : goal.clause-requires-2-clause-given
clause-requires-2-clause-given c =
    let s = says_still c.clause.ensures.next.later c.in_ok-o.ensures.says in
    given_second (encoding_of c.clause.new.self) c.in_ok-o.o c.args.a c.args.b s c.negated-not_o.result
    c.negated-not_o.ensures

pub clause-requires-3-clause-given : goal.clause-requires-3-clause-given
clause-requires-3-clause-given c =
    let s = says_still (next_on c.clause.ensures.next c.clause-2.ensures.next).later c.in_ok-o.ensures.says in
    given_both (encoding_of c.clause-2.new.self) c.in_ok-o.o c.args.a c.args.b s c.negated-not_a.result
    c.negated-not_b.result c.negated-not_a.ensures c.negated-not_b.ensures

pub returns-clause-next : goal.returns-clause-next
returns-clause-next c =
    next_on c.variable.ensures.next (next_on c.clause.ensures.next (next_on c.clause-2.ensures.next
    (next_on c.clause-3.ensures.next c.keep_gate.ensures.next)))

pub returns-clause-says : goal.returns-clause-says
returns-clause-says c =
    says_still (next_on c.clause.ensures.next (next_on c.clause-2.ensures.next
    (next_on c.clause-3.ensures.next c.keep_gate.ensures.next))).later c.in_ok-o.ensures.says
