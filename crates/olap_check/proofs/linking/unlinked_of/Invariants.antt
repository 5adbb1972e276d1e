-- The parents so far are linked.
use Rattle.olap_check.proofs.LinkingLemmas.{AreLinkedBefore}
use Rattle.olap_check.proofs.linking.unlinked_of.Given as goal

abbrev pub invariant-parents : goal.invariant-parents
invariant-parents l = AreLinkedBefore l.instance l.categories l.edges l.x l.k
