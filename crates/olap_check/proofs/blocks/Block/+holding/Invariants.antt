-- The parts so far are counted. The measure is the size of the formula, and of the list.
use Rattle.std.proofs.Common.{◌≤◌, ◌+◌, ◌*◌}
use Rattle.olap_ast.specs.{Trees.{formula_of, terms_of}, Valid.{node_count, node_count_of_terms}}
use Rattle.olap_bits.specs.Sets.{members}
use Rattle.olap_check.{proofs.BlockLemmas.IsCounted, specs.Seen.IsSeen}
use Rattle.olap_check.proofs.blocks.Block.+holding.Given as goal

abbrev pub decreases-holding : goal.decreases-holding
decreases-holding l = 2 * node_count (formula_of l.f.now)

abbrev pub decreases-counted : goal.decreases-counted
decreases-counted l = 2 * node_count_of_terms (terms_of l.parts.now) + 1

abbrev pub invariant-counted-parts : goal.invariant-counted-parts
invariant-counted-parts l =
    let b = l.fn.self in
    (node_count_of_terms (terms_of l.left) ≤ node_count_of_terms (terms_of l.fn.parts))
    × IsSeen b.instance.now l.seen
    × IsCounted b.instance.now b.part.now (terms_of l.fn.parts) (terms_of l.left) (members l.counted.none)
    (members l.counted.one)
