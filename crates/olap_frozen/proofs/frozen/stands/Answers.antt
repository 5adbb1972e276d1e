use Rattle.std.proofs.Common.{false, arith}
use Rattle.olap_frozen.proofs.LeafLemmas.{absent_part, sound_part}
use Rattle.olap_frozen.proofs.frozen.stands.Goals as goal

pub returns-then-not-is_sound : goal.returns-then-not-is_sound
returns-then-not-is_sound c = grind (arith, sound_part)

pub returns-then-not-are_absent_zero : goal.returns-then-not-are_absent_zero
returns-then-not-are_absent_zero c = grind (arith, absent_part)

pub close-requires-clause-edges : goal.close-requires-clause-edges
close-requires-clause-edges c = c.requires.sized.edge_count

pub is_sound-requires-clause-edges : goal.is_sound-requires-clause-edges
is_sound-requires-clause-edges c = c.requires.sized.edge_count

pub is_sound-requires-clause-rows : goal.is_sound-requires-clause-rows
is_sound-requires-clause-rows c = c.close.ensures.rows

pub are_absent_zero-requires-clause-edges : goal.are_absent_zero-requires-clause-edges
are_absent_zero-requires-clause-edges c = c.requires.sized.edge_count

pub are_absent_zero-requires-clause-names : goal.are_absent_zero-requires-clause-names
are_absent_zero-requires-clause-names c = c.requires.sized.name_count

pub are_absent_zero-requires-clause-rows : goal.are_absent_zero-requires-clause-rows
are_absent_zero-requires-clause-rows c = c.close.ensures.rows

pub are_absent_zero-requires-clause-sound : goal.are_absent_zero-requires-clause-sound
are_absent_zero-requires-clause-sound c = c.is_sound.ensures.0 c.if-not-is_sound.false

pub named-requires-clause-sized : goal.named-requires-clause-sized
named-requires-clause-sized c = c.requires.sized

pub named-requires-clause-candidates : goal.named-requires-clause-candidates
named-requires-clause-candidates c = c.requires.candidates

pub named-requires-clause-rows : goal.named-requires-clause-rows
named-requires-clause-rows c = c.close.ensures.rows

pub named-requires-clause-sound : goal.named-requires-clause-sound
named-requires-clause-sound c = c.is_sound.ensures.0 c.if-not-is_sound.false

pub named-requires-clause-absent : goal.named-requires-clause-absent
named-requires-clause-absent c = c.are_absent_zero.ensures.0 c.if-not-are_absent_zero.false

pub named-requires-clause-hierarchy : goal.named-requires-clause-hierarchy
named-requires-clause-hierarchy c = c.close.ensures.hierarchy

pub returns : goal.returns
returns c = c.named.ensures
