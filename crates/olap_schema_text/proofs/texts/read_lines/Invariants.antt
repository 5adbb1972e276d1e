-- What the lines so far say goes on with the lines that are left, and its constants are counted.
use Rattle.std.proofs.Common.{◌≡◌, ◌≤◌, ◌+◌, Ok, length}
use Rattle.olap_schema_text.specs.{Judging.lines_on, Lines.lines_of, Reading.{IsCounted, above_of}}
use Rattle.olap_schema_text.proofs.texts.read_lines.Given as goal

abbrev pub invariant-lines : goal.invariant-lines
invariant-lines l = record {
  read :
      lines_on (Ok (above_of l.fn.reading)) 0 (lines_of l.fn.text)
      ≡ lines_on (Ok (above_of l.reading)) l.n (lines_of l.left);
  counted : IsCounted l.reading;
  few : l.n + length l.left ≤ length l.fn.text;
}

abbrev pub decreases-lines : goal.decreases-lines
decreases-lines l = length l.left
