-- The state after the bytes so far goes on as the whole does, and has no more brackets than bytes.
use Rattle.std.{proofs.Common.{◌≡◌, ◌≤◌, ◌+◌, length}, specs.List.fold}
use Rattle.olap_grammar.specs.{Cutter.{cut_of, kept_of}, Keeping.{kept_step, Between}, Tallying.brackets}
use Rattle.olap_grammar.proofs.cutting.cut.Given as goal

abbrev pub invariant-bytes : goal.invariant-bytes
invariant-bytes l =
    (fold (kept_step l.version) (Between (kept_of l.fn.tokens)) l.line
    ≡ fold (kept_step l.version) (cut_of l.begun l.bytes.items (kept_of l.tokens)) l.left)
    × (brackets l.tokens.tally + length l.left ≤ length l.line)

abbrev pub decreases-bytes : goal.decreases-bytes
decreases-bytes l = length l.left
