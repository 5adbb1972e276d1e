-- What was open is what is open still.
use Rattle.std.proofs.Common.{length}
use Rattle.olap_proof.proofs.BranchLemmas.{IsStillOpen}
use Rattle.olap_proof.proofs.branches.go_on.Given as goal

abbrev pub invariant-choices : goal.invariant-choices
invariant-choices l = IsStillOpen l.graph l.candidates l.initial.place l.initial.choices.items l.place l.choices.items

abbrev pub decreases-choices : goal.decreases-choices
decreases-choices l = length l.choices.items
