-- What each check that passed tells, for the last exit.
use Rattle.std.proofs.Common.{rules, arith, false}
use Rattle.olap_instance.proofs.EnteringLemmas.{entered}
use Rattle.olap_base.proofs.GeneralLemmas.{none_from_is_some}
use Rattle.olap_instance.proofs.entering.checked.Goals as goal

pub returns-clause-absent : goal.returns-clause-absent
returns-clause-absent c = grind (arith, none_from_is_some)

pub returns-clause-room : goal.returns-clause-room
returns-clause-room c = let a = c.if-len.false in let n = c.len-2.ensures in omega arith

pub returns-clause-other : goal.returns-clause-other
returns-clause-other c = search rules

pub returns-clause-member : goal.returns-clause-member
returns-clause-member c = grind (arith, returns-clause-room, entered, returns-clause-other, returns-clause-absent)
