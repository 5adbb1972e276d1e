-- What both are, at once.
use Rattle.std.proofs.Common.{rules}
use Rattle.olap_encoding.proofs.NodeLemmas.{never_first, never_second, never_opposite, always_first, same_twice, always_second}
use Rattle.olap_encoding.proofs.nodes.known_both.Goals as goal

pub returns-then-eq : goal.returns-then-eq
returns-then-eq c = λ e t k m.
    never_first e t c.args.a c.args.b (search (rules, c.if-eq.ensures))

pub returns-then-eq-2 : goal.returns-then-eq-2
returns-then-eq-2 c = λ e t k m.
    never_second e t c.args.a c.args.b (search (rules, c.if-eq-2.ensures))

pub returns-then-eq-3 : goal.returns-then-eq-3
returns-then-eq-3 c = λ e t k m.
    never_opposite e t c.args.a c.args.b c.negated-not_b.result c.negated-not_b.ensures
    (search (rules, c.if-eq-3.ensures))

pub returns-then-eq-4 : goal.returns-then-eq-4
returns-then-eq-4 c = λ e t k m.
    always_first e t c.args.a c.args.b m (search (rules, c.if-eq-4.ensures))

pub returns-then-eq-5 : goal.returns-then-eq-5
returns-then-eq-5 c = λ e t k m.
    same_twice e t c.args.a c.args.b m (search (rules, c.if-eq-5.ensures))

pub returns-then-eq-6 : goal.returns-then-eq-6
returns-then-eq-6 c = λ e t k m.
    always_second e t c.args.a c.args.b k (search (rules, c.if-eq-6.ensures))
