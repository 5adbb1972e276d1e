-- What exactly one is, at once.
use Rattle.std.proofs.Common.{rules}
use Rattle.olap_encoding.proofs.NodeLemmas.{either_second, either_first, either_not_second, either_not_first, either_same, either_opposite}
use Rattle.olap_encoding.proofs.nodes.known_either.Goals as goal

pub returns-then-eq : goal.returns-then-eq
returns-then-eq c = λ e t k m.
    either_second e t c.args.a c.args.b m (search (rules, c.if-eq.ensures))

pub returns-then-eq-2 : goal.returns-then-eq-2
returns-then-eq-2 c = λ e t k m.
    either_first e t c.args.a c.args.b k (search (rules, c.if-eq-2.ensures))

pub returns-then-eq-3 : goal.returns-then-eq-3
returns-then-eq-3 c = λ e t k m.
    either_not_second e t c.args.a c.args.b c.negated-not_b.result c.negated-not_b.ensures m
    (search (rules, c.if-eq-3.ensures))

pub returns-then-eq-4 : goal.returns-then-eq-4
returns-then-eq-4 c = λ e t k m.
    either_not_first e t c.args.a c.args.b c.negated-not_a.result c.negated-not_a.ensures k
    (search (rules, c.if-eq-4.ensures))

pub returns-then-eq-5 : goal.returns-then-eq-5
returns-then-eq-5 c = λ e t k m.
    either_same e t c.args.a c.args.b (search (rules, c.if-eq-5.ensures))

pub returns-then-eq-6 : goal.returns-then-eq-6
returns-then-eq-6 c = λ e t k m.
    either_opposite e t c.args.a c.args.b c.negated-not_b.result c.negated-not_b.ensures
    (search (rules, c.if-eq-6.ensures))
