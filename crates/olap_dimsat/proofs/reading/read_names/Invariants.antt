use Rattle.std.{proofs.Common.{◌≡◌, ℕ, ◌<◌, ◌≤◌, length}, specs.Prelude.slice_index}
use Rattle.olap_dimsat.specs.{Asking.task_of, Reads.NameReads, Tasks.constant_count}
use Rattle.olap_dimsat.proofs.reading.read_names.Given as goal

abbrev pub invariant-categories : goal.invariant-categories
invariant-categories l = record {
  size : length l.names ≡ length l.fn.names;
  reads : (k : ℕ) → k < l.c → NameReads (task_of l.a) l.trail k (slice_index l.names k);
  in_range : (k : ℕ) → k < l.c → slice_index l.names k ≤ constant_count (task_of l.a) k;
}
