-- Each name, and each two.
use Rattle.std.proofs.Common.{◌<◌, subst}
use Rattle.olap_encoding.proofs.{Growing.{next_same, next_on}, NameLemmas.constants_still, OutLemmas.category_still}
use Rattle.olap_encoding.proofs.naming.pairs.Goals as goal

pub names-init : goal.names-init
names-init c = next_same c.requires.sound

pub named_is_present-requires-clause-category : goal.named_is_present-requires-clause-category
named_is_present-requires-clause-category c = category_still c.names.invariant.later c.args.c.0 c.requires.category

pub named_is_present-requires-clause-place : goal.named_is_present-requires-clause-place
named_is_present-requires-clause-place c =
    constants_still c.names.invariant.later c.args.c.0 c.names.j
    (subst (λ n. c.names.j < n) c.requires.count c.names-test.true)

pub earlier-init : goal.earlier-init
earlier-init c = next_on c.names.invariant c.named_is_present.ensures.next

pub one_name-requires-clause-category : goal.one_name-requires-clause-category
one_name-requires-clause-category c = category_still c.earlier.invariant.later c.args.c.0 c.requires.category

pub one_name-requires-clause-place : goal.one_name-requires-clause-place
one_name-requires-clause-place c =
    constants_still c.earlier.invariant.later c.args.c.0 c.names.j
    (subst (λ n. c.names.j < n) c.requires.count c.names-test.true)

pub earlier-preserved : goal.earlier-preserved
earlier-preserved c = next_on c.earlier.invariant c.one_name.ensures.next
