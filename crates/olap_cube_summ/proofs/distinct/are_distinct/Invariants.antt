-- None of those before stands twice.
use Rattle.std.{proofs.Common.{◌≡◌, ℕ, ◌<◌, []}, specs.Prelude.slice_index_or}
use Rattle.olap_cube.specs.Told.{tuples_in}
use Rattle.olap_cube_summ.proofs.distinct.are_distinct.Given as goal

abbrev pub invariant-sources : goal.invariant-sources
invariant-sources l = (i j : ℕ) → i < j → j < l.k
    → slice_index_or (tuples_in l.sources) i [] ≡ slice_index_or (tuples_in l.sources) j [] → ⊥
