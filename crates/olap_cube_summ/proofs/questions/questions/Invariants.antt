-- The questions of the dimensions so far.
use Rattle.std.{proofs.Common.{◌≡◌, ℕ, ◌<◌, length}, specs.Prelude.{slice_index, slice_index_or}}
use Rattle.olap_cube.specs.Told.{tuple_of, tuples_in}
use Rattle.olap_cube_summ.specs.Questions.{IsColumn, no_question, sources_in, target_in}
use Rattle.olap_cube_summ.proofs.questions.questions.Given as goal

abbrev pub invariant-dimensions : goal.invariant-dimensions
invariant-dimensions l = record {
  count : length l.questions.items ≡ l.i;
  targets : (j : ℕ) → j < l.i
      → target_in (slice_index_or l.questions.items j no_question) ≡ slice_index (tuple_of l.target) j;
  columns : (j : ℕ) → j < l.i
      → IsColumn j (tuples_in l.sources) (sources_in (slice_index_or l.questions.items j no_question));
}
