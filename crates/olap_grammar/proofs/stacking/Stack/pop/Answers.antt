use Rattle.std.proofs.Common.{arith}
use Rattle.olap_grammar.{proofs.StackLemmas.popped, specs.Frames.frames}
use Rattle.olap_grammar.proofs.stacking.Stack.pop.Goals as goal

pub returns : goal.returns
unfolding frames
returns c = popped c.args.self.now.frames.items c.pop.new.self.items c.args.self.now.frames.len c.pop.new.self.len
    c.pop.result (omega arith) (omega arith) c.pop.ensures.items c.pop.ensures.cases
