-- The line `no`, and those of the categories so far.
use Rattle.std.proofs.Common.{◌≡◌, ◌++◌, codes, flat_map, take}
use Rattle.olap_ast.specs.{Findings.Finding.Unsatisfiable, Trees.numbers_of}
use Rattle.olap_order.specs.Outputs.{line}
use Rattle.olap_reasoning.specs.Listings.{finding_text}
use Rattle.olap_reasoning.proofs.needing.emptied_lines.Given as goal

abbrev pub invariant-emptied : goal.invariant-emptied
invariant-emptied l = l.text.items ≡ line (codes "no")
    ++ flat_map (λ b. finding_text l.graph (Unsatisfiable b)) (numbers_of (take l.category-index l.emptied))
