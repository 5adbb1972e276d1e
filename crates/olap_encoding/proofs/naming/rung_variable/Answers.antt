-- A variable that is kept.
use Rattle.olap_encoding.proofs.Growing.{next_on, says_still}
use Rattle.olap_encoding.proofs.naming.rung_variable.Goals as goal

pub returns-clause-next : goal.returns-clause-next
returns-clause-next c = next_on c.variable.ensures.next c.keep_rung.ensures.next

pub returns-clause-says : goal.returns-clause-says
returns-clause-says c = says_still c.keep_rung.ensures.next.later c.in_ok-l.ensures.says
