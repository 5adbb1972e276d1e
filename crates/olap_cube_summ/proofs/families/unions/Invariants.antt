-- The unions of the first dimensions.
use Rattle.std.proofs.Common.{take}
use Rattle.olap_cube_summ.specs.Families.{AreUnions}
use Rattle.olap_cube_summ.proofs.families.unions.Given as goal

abbrev pub invariant-dimensions : goal.invariant-dimensions
invariant-dimensions l = record { unions : AreUnions (take l.i l.dimensions) l.sets.items }
