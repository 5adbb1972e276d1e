-- None before is the same.
use Rattle.std.{proofs.Common.{◌≡◌, ℕ, ◌<◌, []}, specs.Prelude.slice_index_or}
use Rattle.olap_cube.specs.Told.{tuples_in}
use Rattle.olap_cube_summ.proofs.distinct.stands_before.Given as goal

abbrev pub invariant-earlier : goal.invariant-earlier
invariant-earlier l = (i : ℕ) → i < l.j
    → slice_index_or (tuples_in l.sources) i [] ≡ slice_index_or (tuples_in l.sources) l.k [] → ⊥
