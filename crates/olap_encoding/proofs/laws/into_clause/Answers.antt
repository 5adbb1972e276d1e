-- One edge after the other, and one clause.
use Rattle.std.proofs.Common.{◌≤◌, length, sym, subst, ◌∙◌, arith}
use Rattle.olap_encoding.proofs.{GivenLemmas.{given_into, given_turned}, OutLemmas.{none_into, one_into, all_into}}
use Rattle.olap_encoding.specs.{EncoderInside.encoding_of, Encoding.IsGiven}
use Rattle.olap_encoding.proofs.laws.into_clause.Goals as goal

pub edges-init : goal.edges-init
edges-init c = none_into (encoding_of c.args.e.now) c.args.c.0 c.args.literals.now.items

pub edges-preserved : goal.edges-preserved
edges-preserved c =
    let t = c.in_ok-try_into.ensures in
    one_into c.edges.invariant c.try_into.new.into.items t.kept t.has

pub clause-requires-clause-given : goal.clause-requires-clause-given
clause-requires-clause-given c =
    let e = encoding_of c.args.e.now in
    let ls = c.edges.literals.items in
    let h : length e.question.schema.graph.edges ≤ c.edges.k =
    let q = c.edges-k-end.ensures.count in let z = c.edges-test.false in omega arith in
    subst (λ ls. IsGiven e ls) (sym (c.deref.ensures.value ∙ c.in_ok-push.ensures.items))
    (given_turned e c.negated-not_l.result ls
    (given_into e c.requires.sound c.negated-not_l.result c.present-l.result c.args.c.0 ls c.requires.apart
    c.negated-not_l.ensures c.present-l.ensures (all_into c.edges.invariant h)))

pub returns : goal.returns
returns c = record { next = c.clause.ensures.next }
