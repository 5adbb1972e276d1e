-- The clause begins with the negation of the category's presence.
use Rattle.std.{proofs.Common.{sym, subst}, proofs.lemmas.List.Elements.Contains-push, specs.Prelude.Contains}
use Rattle.olap_ast.specs.Trees.{formula_of}
use Rattle.olap_encoding.proofs.{Growing.{says_still, next_on}, SplittingLemmas.{true_still, given_widened}}
use Rattle.olap_encoding.specs.{EncoderInside.encoding_of, Encoding.IsGiven, Formulas.signed}
use Rattle.olap_encoding.proofs.splitting.alternatives_clause.Goals as goal

pub clause-requires-clause-given : goal.clause-requires-clause-given
clause-requires-clause-given c =
    let e = encoding_of c.alternatives.new.e in
    let x = signed c.args.holds (formula_of c.args.f.now) in
    subst (λ ls. IsGiven e ls) (sym c.deref.ensures.value)
    (given_widened e c.args.c.0 n c.present-p.result x c.negated-not_p.ensures
    (says_still s.next.later c.present-p.ensures)
    (subst (λ ls. Contains ls n) (sym c.in_ok-push.ensures.items) (Contains-push c.args.literals.now.items n))
    (true_still s.next.later c.args.c.0 x c.requires.so) s.widened)
  where
    open c use {in_ok-alternatives.ensures as s, negated-not_p.result as n}

pub returns : goal.returns
returns c = record {
  next = next_on c.in_ok-alternatives.ensures.next c.clause.ensures.next;
}
