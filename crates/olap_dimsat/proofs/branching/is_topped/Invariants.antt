-- No greater number so far is left.
use Rattle.std.proofs.Common.{ℕ, ◌<◌, ◌≤◌}
use Rattle.olap_dimsat.specs.{Asking.task_of, Branches.IsRefuted}
use Rattle.olap_dimsat.proofs.branching.is_topped.Given as goal

abbrev pub invariant-numbers : goal.invariant-numbers
invariant-numbers l = (x : ℕ) → l.number < x → x ≤ l.x → IsRefuted (task_of l.a) l.trail l.p x
