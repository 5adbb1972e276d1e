use Rattle.std.proofs.Common.{◌≡◌, arith, length}
use Rattle.olap_grammar.{proofs.StackLemmas.length_frames, specs.Frames.frames}
use Rattle.olap_grammar.proofs.stacking.Stack.is_empty.Goals as goal

pub returns : goal.returns
unfolding frames
returns c =
    let items = c.args.self.now.frames.items in
    let e : length items ≡ c.args.self.now.frames.len = omega arith in
    rw (length_frames items, e) c.is_empty.ensures
