-- A tally with no fact stands for the empty table.
use Rattle.std.proofs.{Common.{◌≤◌, length, sym, subst, arith}, lemmas.List.length-map}
use Rattle.olap_view.specs.Columns.{Ascent}
use Rattle.olap_cube_views.{proofs.CubeTallyLemmas.tally_start, specs.CubeTallies.{IsCubeTally, tallied}}
use Rattle.olap_cube_views.specs.Dimensions.{categories_in, instances_in}
use Rattle.olap_cube.specs.Limits.{most_dimensions}
use Rattle.olap_cube_views.proofs.tallies.CubeTally.new.Goals as goal

pub invariant_of-result : goal.invariant_of-result
invariant_of-result c =
    let columns = c.args.columns.items in
    let l = length-map columns (λ (a : Ascent). a.instance) in
    let few : length (instances_in columns) ≤ most_dimensions = let f = c.requires in omega arith in
    subst (λ rows. IsCubeTally (tallied columns rows 0)) (sym c.new.ensures)
    (tally_start (instances_in columns) (categories_in columns) few)
