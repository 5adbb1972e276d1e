-- The whole path is there exactly if it goes on from the category reached so far along the rest of the list.
use Rattle.std.proofs.Common.{drop}
use Rattle.olap_ast.specs.Formula.{HasPath}
use Rattle.olap_eval.proofs.ShapeLemmas.{IsFollowed, numbers}
use Rattle.olap_eval.proofs.truths.follows.Given as goal

abbrev pub invariant-path : goal.invariant-path
invariant-path g l =
    let i = g.S.Shape.instance l.s in
    let place = g.S.Shape.place l.s in
    let P = HasPath i (place l.fn.root.0) (numbers l.categories) in
    IsFollowed i (g.S.Shape.present l.s) place P l.at.0 (numbers (drop l.c-index l.categories))
