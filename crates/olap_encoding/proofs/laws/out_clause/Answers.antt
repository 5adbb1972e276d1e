-- One edge after the other, and one clause.
use Rattle.std.proofs.Common.{◌+◌, sym, subst, ◌∙◌}
use Rattle.olap_encoding.proofs.{GivenLemmas.{given_out, given_turned}, OutLemmas.{AreOut, none_out, one_out, all_out}}
use Rattle.olap_encoding.specs.{EncoderInside.encoding_of, Encoding.IsGiven}
use Rattle.olap_encoding.proofs.laws.out_clause.Goals as goal

pub edges-init : goal.edges-init
edges-init c =
    none_out (encoding_of c.args.e.now) c.args.c.0 c.parents-id-items.result.now c.args.literals.now.items

pub edges-preserved : goal.edges-preserved
edges-preserved c =
    let e = encoding_of c.args.e.now in
    let out = c.parents-id-items.result.now in
    subst (λ ls. AreOut e c.args.c.0 out (c.edges.id-index + 1) ls) (sym c.in_ok-push.ensures.items)
    (one_out c.edges.invariant c.on-on.result c.parents-id-items.ensures.list c.edges-test.true c.on-on.ensures)

pub clause-requires-clause-given : goal.clause-requires-clause-given
clause-requires-clause-given c =
    let e = encoding_of c.args.e.now in
    let ls = c.edges.literals.items in
    subst (λ ls. IsGiven e ls) (sym (c.deref.ensures.value ∙ c.in_ok-push-2.ensures.items))
    (given_turned e c.negated-not_l.result ls
    (given_out e c.requires.sound c.negated-not_l.result c.present-l.result c.args.c.0 ls c.requires.declared
    c.negated-not_l.ensures c.present-l.ensures
    (all_out c.edges.invariant c.parents-id-items.ensures.list c.edges-test.false)))

pub returns : goal.returns
returns c = record { next = c.clause.ensures.next }
