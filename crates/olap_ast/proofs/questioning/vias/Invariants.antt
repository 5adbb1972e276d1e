-- The terms are those of the sources from this one on.
use Rattle.std.proofs.Common.{◌≡◌, ◌≤◌, length, drop}
use Rattle.olap_ast.specs.{Summarizable.vias, Trees.{numbers_of, terms_of}}
use Rattle.olap_ast.proofs.questioning.vias.Given as goal

abbrev pub invariant-sources : goal.invariant-sources
invariant-sources l = record {
  behind : terms_of l.terms ≡ vias l.target.0 (drop l.left (numbers_of l.sources));
  inside : l.left ≤ length l.sources;
}

abbrev pub decreases-sources : goal.decreases-sources
decreases-sources l = l.left
