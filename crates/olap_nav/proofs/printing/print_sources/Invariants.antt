-- The names of the categories so far are appended.
use Rattle.std.proofs.Common.{ℕ, ◌≡◌, ◌∷◌, ◌++◌, codes, flat_map, take}
use Rattle.olap_graph.specs.Lookups.{name_of_category}
use Rattle.olap_ast.specs.Trees.{numbers_of}
use Rattle.olap_nav.proofs.printing.print_sources.Given as goal

abbrev pub invariant-sources : goal.invariant-sources
invariant-sources l = l.text.items ≡ codes "plan" ++ flat_map (λ (c : ℕ). 32 ∷ name_of_category l.graph c)
    (numbers_of (take l.source-index l.sources))
