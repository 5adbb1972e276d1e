-- The literal itself, or its negation.
use Rattle.std.proofs.Common.{sym, subst}
use Rattle.olap_ast.specs.{Formula.Formula.Not, Trees.formula_of}
use Rattle.olap_encoding.proofs.{SplittingLemmas.widened_by, TellingLemmas.tell_not}
use Rattle.olap_encoding.specs.{EncoderInside.encoding_of, Formulas.{IsWidened, signed}}
use Rattle.olap_encoding.proofs.splitting.push_literal.Goals as goal

pub returns-in_ok-push-clause-widened : goal.returns-in_ok-push-clause-widened
returns-in_ok-push-clause-widened c =
    let e = encoding_of c.literal.new.e in
    let x = formula_of c.args.f.now in
    subst (λ b. IsWidened e c.args.c.0 (signed b x) ls c.push.new.self.items) (sym c.if-holds.true)
    (subst (λ ms. IsWidened e c.args.c.0 x ls ms) (sym c.in_ok-push.ensures.items)
    (widened_by e c.args.c.0 c.in_ok-l.l x ls s.says))
  where
    open c use {in_ok-l.ensures as s, args.literals.now.items as ls}

pub returns-in_ok-push-2-clause-widened : goal.returns-in_ok-push-2-clause-widened
returns-in_ok-push-2-clause-widened c =
    let e = encoding_of c.literal.new.e in
    let x = formula_of c.args.f.now in
    subst (λ b. IsWidened e c.args.c.0 (signed b x) ls c.push-else-holds.new.self.items) (sym c.if-holds.false)
    (subst (λ ms. IsWidened e c.args.c.0 (Not x) ls ms) (sym c.in_ok-push-2.ensures.items)
    (widened_by e c.args.c.0 c.negated.result (Not x) ls
    (tell_not e s.next.sound c.args.c.0 c.in_ok-l.l c.negated.result x c.negated.ensures s.says)))
  where
    open c use {in_ok-l.ensures as s, args.literals.now.items as ls}
