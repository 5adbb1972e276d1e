use Rattle.std.proofs.Common.{sym}
use Rattle.olap_grammar.{proofs.StackLemmas.{takes_no_part, takes_part}, specs.Frames.frames}
use Rattle.olap_grammar.proofs.stacking.Stack.takes_part.Goals as goal

pub returns-in-Some : goal.returns-in-Some
unfolding frames
returns-in-Some c =
    takes_part c.deref.result.now _ c.in-Some.frame.now c.takes_part.result c.deref.ensures.value
    (sym c.in-Some.ensures.value) c.takes_part.ensures

pub returns-in-None : goal.returns-in-None
unfolding frames
returns-in-None c = takes_no_part c.deref.result.now _ c.deref.ensures.value (sym c.in-None.ensures.value)
