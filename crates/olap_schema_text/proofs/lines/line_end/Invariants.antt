-- This many bytes stand before what is left, none of them a LF.
use Rattle.std.proofs.Common.{◌≡◌, ◌+◌, length}
use Rattle.olap_schema_text.specs.Lines.{line_length}
use Rattle.olap_schema_text.proofs.lines.line_end.Given as goal

abbrev pub invariant-bytes : goal.invariant-bytes
invariant-bytes l = (l.end + line_length l.left ≡ line_length l.fn.text) × (l.end + length l.left ≡ length l.fn.text)

abbrev pub decreases-bytes : goal.decreases-bytes
decreases-bytes l = length l.left
