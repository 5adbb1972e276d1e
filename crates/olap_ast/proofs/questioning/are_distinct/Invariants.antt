-- None of those before stands twice.
use Rattle.std.{proofs.Common.{◌≡◌, ℕ, ◌<◌}, specs.Prelude.slice_index}
use Rattle.olap_ast.specs.Trees.{numbers_of}
use Rattle.olap_ast.proofs.questioning.are_distinct.Given as goal

abbrev pub invariant-sources : goal.invariant-sources
invariant-sources l = (i j : ℕ) → i < j → j < l.k
    → slice_index (numbers_of l.sources) i ≡ slice_index (numbers_of l.sources) j → ⊥
