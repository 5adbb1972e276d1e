-- The families of the dimensions so far, whose schemas are valid.
use Rattle.std.{proofs.Common.{◌≡◌, ℕ, ◌<◌, [], length}, specs.Prelude.slice_index_or}
use Rattle.olap_ast.specs.Valid.{IsValidSchema}
use Rattle.olap_cube_summ.specs.{Dimensions.{no_schema, schemas_of}, Patterns.AreFamilies, Questions.no_question}
use Rattle.olap_cube_summ.proofs.summarizing.all_families.Given as goal

abbrev pub invariant-dimensions : goal.invariant-dimensions
invariant-dimensions l = record {
  count : length l.all.items ≡ l.i;
  each : (j : ℕ) → j < l.i → AreFamilies (slice_index_or (schemas_of l.cube) j no_schema)
      (slice_index_or l.questions j no_question) (slice_index_or l.all.items j []);
  valid : (j : ℕ) → j < l.i → IsValidSchema (slice_index_or (schemas_of l.cube) j no_schema);
}
