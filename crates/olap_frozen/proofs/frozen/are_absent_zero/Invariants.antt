use Rattle.std.{proofs.Common.{◌≡◌, ◌<◌, ℕ, false}, specs.Prelude.slice_index}
use Rattle.olap_ast.specs.Frozen.{chosen, is_present}
use Rattle.olap_frozen.proofs.frozen.are_absent_zero.Given as goal

abbrev pub invariant-categories : goal.invariant-categories
invariant-categories l = (c : ℕ) → c < l.c → is_present l.root.0 (chosen l.fn.graph.edges l.fn.edges) c ≡ false
    → slice_index l.names c ≡ 0
