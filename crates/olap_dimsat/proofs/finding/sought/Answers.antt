use Rattle.olap_dimsat.proofs.finding.sought.Goals as goal

pub returns-then-not-seek-clause-none : goal.returns-then-not-seek-clause-none
returns-then-not-seek-clause-none c = λ e. c.seek.ensures.none c.if-not-seek.true

pub returns-then-not-seek-clause-candidates : goal.returns-then-not-seek-clause-candidates
returns-then-not-seek-clause-candidates c = c.seek.ensures.candidates

pub returns-clause-some : goal.returns-clause-some
returns-clause-some c = c.seek.ensures.some c.if-not-seek.false

pub returns-clause-candidates : goal.returns-clause-candidates
returns-clause-candidates c = c.seek.ensures.candidates
