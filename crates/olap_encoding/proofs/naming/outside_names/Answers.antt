-- One name after the other.
use Rattle.std.proofs.Common.{◌<◌, length, subst, ap}
use Rattle.olap_encoding.proofs.Growing.{next_same, next_on}
use Rattle.olap_encoding.proofs.NameLemmas.{constants_still, outside_still, given_outside_name_at}
use Rattle.olap_encoding.{proofs.OutLemmas.category_still, specs.EncoderInside.encoding_of}
use Rattle.olap_encoding.proofs.naming.outside_names.Goals as goal

pub names-init : goal.names-init
names-init c = next_same c.requires.sound

pub name-l-requires-clause-category : goal.name-l-requires-clause-category
name-l-requires-clause-category c = category_still c.names.invariant.later c.args.c.0 c.requires.category

pub name-l-requires-clause-place : goal.name-l-requires-clause-place
name-l-requires-clause-place c =
    let q = ap length c.others-count.ensures.list in
    constants_still c.names.invariant.later c.args.c.0 c.names.j (subst (λ n. c.names.j < n) q c.names-test.true)

pub clause-requires-clause-given : goal.clause-requires-clause-given
clause-requires-clause-given c =
    let n = c.names.invariant in
    given_outside_name_at (encoding_of c.names.e) n.sound c.negated-not_l.result c.name-l.result c.args.c.0 c.names.j
    (category_still n.later c.args.c.0 c.requires.category) c.negated-not_l.ensures c.name-l.ensures
    (outside_still n.later c.args.c.0 c.requires.outside)

pub names-preserved : goal.names-preserved
names-preserved c = next_on c.names.invariant c.clause.ensures.next
