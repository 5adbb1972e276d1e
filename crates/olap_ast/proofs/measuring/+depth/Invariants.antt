-- The depth of the parts so far is known. A formula is deeper than a part, and a list as deep as its deepest part.
use Rattle.std.{proofs.Common.{◌≡◌, ◌+◌, ◌*◌}, specs.Prelude.max}
use Rattle.olap_ast.specs.{Trees.{formula_of, terms_of}, Valid.{depth_of, depth_of_terms}}
use Rattle.olap_ast.proofs.measuring.+depth.Given as goal

abbrev pub decreases-depth : goal.decreases-depth
decreases-depth l = 2 * depth_of (formula_of l.f.now)

abbrev pub decreases-depth_of_parts : goal.decreases-depth_of_parts
decreases-depth_of_parts l = 2 * depth_of_terms (terms_of l.terms.now) + 1

abbrev pub invariant-depth_of_parts-parts : goal.invariant-depth_of_parts-parts
invariant-depth_of_parts-parts l =
    max l.most (depth_of_terms (terms_of l.left)) ≡ depth_of_terms (terms_of l.fn.terms)
