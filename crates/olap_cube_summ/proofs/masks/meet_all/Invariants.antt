-- What the masks can become by the sets that are left is what all can become by all sets.
use Rattle.std.proofs.Common.{◌↔◌, ◌++◌, ℕ, List, drop}
use Rattle.olap_bits.specs.declared.sets.CatSet.{CatSet}
use Rattle.olap_cube_summ.specs.Masks.{OneCanBeBad}
use Rattle.olap_cube_summ.proofs.masks.meet_all.Given as goal

abbrev pub invariant-sets : goal.invariant-sets
invariant-sets l = record {
  left : (n : ℕ) (after : List (CatSet 4))
      → OneCanBeBad n (l.sets ++ after) l.fn.masks ↔ OneCanBeBad n (drop l.k l.sets ++ after) l.met;
}
