-- The patterns of the families so far.
use Rattle.std.proofs.Common.{◌≡◌, take}
use Rattle.olap_cube_summ.specs.Families.{patterns_of}
use Rattle.olap_cube_summ.proofs.choosing.sets.Given as goal

abbrev pub invariant-families : goal.invariant-families
invariant-families l = l.sets.items ≡ patterns_of (take l.k l.families)
