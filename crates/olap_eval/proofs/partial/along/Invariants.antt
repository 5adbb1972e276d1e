-- The value so far and that of what is left of the path are the value of the whole path.
use Rattle.std.proofs.Common.{◌≡◌, ◌&&◌, drop}
use Rattle.olap_ast.specs.ThreeValues.{value_of_both}
use Rattle.olap_eval.{proofs.ShapeLemmas.numbers, specs.Partial.value_along}
use Rattle.olap_eval.proofs.partial.along.Given as goal

abbrev pub invariant-path : goal.invariant-path
invariant-path g l =
    let k = g.P.Partial.known l.p in
    value_of_both ◌&&◌ l.value (value_along k l.at.0 (numbers (drop l.c-index l.categories)))
    ≡ value_along k l.fn.root.0 (numbers l.categories)
