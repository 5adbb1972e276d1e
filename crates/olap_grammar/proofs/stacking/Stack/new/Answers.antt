use Rattle.olap_grammar.{proofs.StackLemmas.frames_none, specs.Frames.frames}
use Rattle.olap_grammar.proofs.stacking.Stack.new.Goals as goal

pub returns : goal.returns
unfolding frames
returns c = rw c.new.ensures.items frames_none
