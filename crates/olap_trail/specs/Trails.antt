-- The definitions' decisions that the program's stand for.
use Rattle.std.specs.Prelude.{List, map}
use Rattle.olap_trail.specs.Decisions.{Decision}
use Rattle.olap_trail.specs.declared.decisions.Decision.{Decision as OneDecision}

-- the decision
abbrev pub decision_of : OneDecision → Decision
decision_of d = record { edge = d.edge.0; present = d.present }

-- the decisions
abbrev pub decisions_of : List OneDecision → List Decision
decisions_of ds = map decision_of ds
