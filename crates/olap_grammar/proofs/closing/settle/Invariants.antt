-- What is closed so far, with what is left on the stack.
use Rattle.std.proofs.Common.{◌≡◌, length}
use Rattle.olap_grammar.specs.{Clip.clipped, Frames.frames, Machine.settled, Parts.part_of}
use Rattle.olap_grammar.proofs.closing.settle.Given as goal

abbrev pub invariant-frames : goal.invariant-frames
invariant-frames l =
    settled clipped l.fn.least (part_of l.fn.whole) (frames l.fn.stack)
    ≡ settled clipped l.least (part_of l.whole) (frames l.stack)

abbrev pub decreases-frames : goal.decreases-frames
decreases-frames l = length (frames l.stack)
