use Rattle.std.proofs.Common.{ℕ, ◌+◌, ◌<◌, false}
use Rattle.olap_dimsat.specs.{Asking.task_of, Reads.ConstantReads}
use Rattle.olap_dimsat.proofs.reading.read_name.Given as goal

abbrev pub invariant-indexes : goal.invariant-indexes
invariant-indexes l = (k : ℕ) → k + 1 < l.i → ConstantReads (task_of l.a) l.trail l.c.0 k false
