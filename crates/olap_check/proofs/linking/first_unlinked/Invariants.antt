-- The parents of the members so far are linked.
use Rattle.std.proofs.Common.{ℕ, ◌<◌}
use Rattle.olap_check.specs.Linking.{IsLinkedAt}
use Rattle.olap_check.proofs.linking.first_unlinked.Given as goal

abbrev pub invariant-members : goal.invariant-members
invariant-members l = (w : ℕ) → w < l.x → IsLinkedAt l.instance l.categories l.edges w
