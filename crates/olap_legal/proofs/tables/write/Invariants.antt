-- The cells so far are written, and the others as they were.
use Rattle.std.proofs.Common.{◌≡◌, ℕ, ◌+◌, ◌<◌, ◌≤◌, get_or}
use Rattle.olap_legal.proofs.tables.write.Given as goal

abbrev pub invariant-places : goal.invariant-places
invariant-places l = record {
  here : (j : ℕ) → j < l.k → get_or l.cells (l.start + j) 0 ≡ get_or l.row (get_or l.reached j 0) 0;
  before : (j : ℕ) → j < l.start → get_or l.cells j 0 ≡ get_or l.fn.cells j 0;
  after : (j : ℕ) → l.start + l.k ≤ j → get_or l.cells j 0 ≡ get_or l.fn.cells j 0;
}
