-- The parts so far, with what is left on the stack.
use Rattle.std.proofs.Common.{◌≡◌, length}
use Rattle.olap_grammar.specs.{Clip.clipped, Frames.frames, Machine.list_closed, Parts.parts_of}
use Rattle.olap_grammar.proofs.closing.gather.Given as goal

abbrev pub invariant-parts : goal.invariant-parts
invariant-parts l =
    list_closed clipped (parts_of l.fn.parts) (frames l.fn.stack)
    ≡ list_closed clipped (parts_of l.parts) (frames l.stack)

abbrev pub decreases-parts : goal.decreases-parts
decreases-parts l = length (frames l.stack)
