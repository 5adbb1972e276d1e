use Rattle.std.{proofs.Common.{◌≡◌, ℕ, ◌<◌, false, length}, specs.Prelude.slice_index_or}
use Rattle.olap_dimsat.specs.{Asking.task_of, Reads.EdgeReads}
use Rattle.olap_dimsat.proofs.reading.read_edges.Given as goal

abbrev pub invariant-edges : goal.invariant-edges
invariant-edges l = record {
  size : length l.edges ≡ length l.fn.edges;
  reads : (k : ℕ) → k < l.e → EdgeReads (task_of l.a) l.trail k (slice_index_or l.edges k false);
}
