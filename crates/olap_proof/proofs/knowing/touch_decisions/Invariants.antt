-- The set has the ends of the edges so far.
use Rattle.std.proofs.Common.{ℕ, ◌↔◌}
use Rattle.olap_bits.specs.Sets.{members}
use Rattle.olap_proof.specs.{Seen.TouchedByDecisions, Walking.IsIn}
use Rattle.olap_proof.proofs.knowing.touch_decisions.Given as goal

abbrev pub invariant-decisions : goal.invariant-decisions
invariant-decisions l = (x : ℕ) → IsIn (members l.set) x
    ↔ TouchedByDecisions (members l.initial.set) l.graph l.decisions l.i x
