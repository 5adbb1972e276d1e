-- What waits at the members so far is joined.
use Rattle.olap_view.proofs.JoinedWaitingLemmas.{HasJoined}
use Rattle.olap_view.proofs.tallies.join_waiting.Given as goal

abbrev pub invariant-members : goal.invariant-members
invariant-members l = HasJoined l.fn.table l.table l.waiting l.x
