-- The lines so far led to what is open.
use Rattle.std.proofs.Common.{length}
use Rattle.olap_proof.proofs.StageLemmas.{IsRead}
use Rattle.olap_proof.proofs.judging.first_wrong_from.Given as goal

abbrev pub invariant-lines : goal.invariant-lines
invariant-lines l = IsRead l.form l.asked l.fn.text l.rest l.count l.stage

abbrev pub decreases-lines : goal.decreases-lines
decreases-lines l = length l.rest
