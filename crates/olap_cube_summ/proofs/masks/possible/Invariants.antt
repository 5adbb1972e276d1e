-- The patterns below this one.
use Rattle.olap_cube_summ.proofs.MaskLemmas.{ArePossible}
use Rattle.olap_cube_summ.proofs.masks.possible.Given as goal

abbrev pub invariant-patterns : goal.invariant-patterns
invariant-patterns l = record {
  found : ArePossible l.sources l.mask l.patterns l.rest l.p l.possible;
}
