-- None before is the same.
use Rattle.std.{proofs.Common.{◌≡◌, ℕ, ◌<◌}, specs.Prelude.slice_index}
use Rattle.olap_ast.specs.Trees.{numbers_of}
use Rattle.olap_ast.proofs.questioning.stands_before.Given as goal

abbrev pub invariant-earlier : goal.invariant-earlier
invariant-earlier l = (i : ℕ) → i < l.j
    → slice_index (numbers_of l.sources) i ≡ slice_index (numbers_of l.sources) l.k → ⊥
