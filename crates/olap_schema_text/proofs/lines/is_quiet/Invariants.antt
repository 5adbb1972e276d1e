-- Only spaces and tabs so far.
use Rattle.std.proofs.Common.{◌≡◌, length}
use Rattle.olap_schema_text.specs.Lines.{is_quiet}
use Rattle.olap_schema_text.proofs.lines.is_quiet.Given as goal

abbrev pub invariant-bytes : goal.invariant-bytes
invariant-bytes l = is_quiet l.fn.line ≡ is_quiet l.left

abbrev pub decreases-bytes : goal.decreases-bytes
decreases-bytes l = length l.left
