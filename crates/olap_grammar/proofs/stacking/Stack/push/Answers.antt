use Rattle.olap_grammar.{proofs.StackLemmas.frames_more, specs.Frames.frames}
use Rattle.olap_grammar.proofs.stacking.Stack.push.Goals as goal

pub returns : goal.returns
unfolding frames
returns c = rw c.in_ok-push.ensures.items (frames_more c.args.self.now.frames.items c.args.frame)
