-- No member so far lacks a parent.
use Rattle.std.proofs.Common.{ℕ, ◌<◌}
use Rattle.olap_check.specs.Linking.{IsOrphan}
use Rattle.olap_check.proofs.linking.first_orphan.Given as goal

abbrev pub invariant-members : goal.invariant-members
invariant-members l = (w : ℕ) → w < l.x → IsOrphan l.instance w → ⊥
