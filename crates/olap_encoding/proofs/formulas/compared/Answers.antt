-- Reached, and with a name that compares so.
use Rattle.std.proofs.{Common.{rules, w64}, lemmas.Int.to_z-of_z}
use Rattle.olap_ast.specs.Trees.{op_of}
use Rattle.olap_encoding.proofs.{Growing.{says_still, next_on, next_after}, OutLemmas.category_still}
use Rattle.olap_encoding.{proofs.TellingLemmas.{tell_compared, tell_unreached}, specs.EncoderInside.encoding_of}
use Rattle.olap_base.proofs.GeneralLemmas.{both_ok}
use Rattle.olap_encoding.proofs.formulas.compared.Goals as goal

pub returns-then-eq-clause-says : goal.returns-then-eq-clause-says
returns-then-eq-clause-says c =
    tell_unreached (encoding_of c.reach.new.self) c.in_ok-a.ensures.next.sound c.args.c.0 c.in_ok-a.a c.args.d.0
    (op_of c.args.op) c.args.n (search (rules, c.if-eq.ensures)) c.in_ok-a.ensures.says

pub comparing-requires-clause-category : goal.comparing-requires-clause-category
comparing-requires-clause-category c = category_still c.in_ok-a.ensures.next.later c.args.d.0 c.requires.speaks.0

pub returns-clause-says : goal.returns-clause-says
returns-clause-says c =
    let e = encoding_of c.both.new.e in
    let op = op_of c.args.op in
    both_ok c.both.result _ _ _
    (λ l n s. tell_compared e n.sound c.args.c.0 l a.a b.b d op m c.requires.speaks.1 s
    (says_still (next_on b.ensures.next n).later a.ensures.says)
    (says_still n.later (rw (to_z-of_z w64 m c.ranges.n) at b.ensures.says)))
    c.both.ensures.next c.both.ensures.says
  where
    open c use {in_ok-a as a, in_ok-b as b, args.d.0 as d, args.n as m}

pub returns-clause-next : goal.returns-clause-next
returns-clause-next c =
    next_after (encoding_of c.both.new.e) c.both.result
    (next_on c.in_ok-a.ensures.next c.in_ok-b.ensures.next) c.both.ensures.next
