-- The dimensions so far are drawn.
use Rattle.std.proofs.Common.{take}
use Rattle.olap_cube_summ.specs.{Dimensions.schemas_of, Drawn.AreDrawn}
use Rattle.olap_cube_summ.proofs.reaching.drawn_of_each.Given as goal

abbrev pub invariant-dimensions : goal.invariant-dimensions
invariant-dimensions l = AreDrawn (take l.i (schemas_of l.cube)) (take l.i l.founds) l.rooms.items
