-- The lists are read as slices.
use Rattle.olap_frozen.proofs.frozen.is_frozen.Goals as goal

pub stands-requires-clause-sized : goal.stands-requires-clause-sized
stands-requires-clause-sized c = rw (c.items.ensures, c.items-2.ensures) c.requires.sized

pub stands-requires-clause-candidates : goal.stands-requires-clause-candidates
stands-requires-clause-candidates c = c.requires.candidates

pub returns-clause-frozen : goal.returns-clause-frozen
returns-clause-frozen c = rw (c.items.ensures, c.items-2.ensures) at c.stands.ensures
