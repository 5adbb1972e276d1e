-- The state after the tokens so far goes on as the whole does.
use Rattle.std.{proofs.Common.{◌≡◌, length, []}, specs.List.fold}
use Rattle.olap_grammar.specs.{Clip.clipped, Frames.frames, Machine.{step, Wants}, Parts.part_of}
use Rattle.olap_grammar.specs.Reader.{leaves_of, state_of}
use Rattle.olap_grammar.proofs.reading.read_tokens.Given as goal

abbrev pub invariant-tokens : goal.invariant-tokens
invariant-tokens l =
    let a = leaves_of l.version in
    fold (step clipped a) (Wants []) l.fn.tokens
    ≡ fold (step clipped a) (state_of l.state (part_of l.whole) (frames l.stack)) l.left

abbrev pub decreases-tokens : goal.decreases-tokens
decreases-tokens l = length l.left
