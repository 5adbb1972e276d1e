-- What is chosen greedily in the dimensions that are left is so with what was chosen; and the sets can still be bad.
use Rattle.std.proofs.Common.{◌++◌, List, [], drop}
use Rattle.olap_cube_summ.{proofs.FamilyLemmas.GreedyOf, specs.Families.AreUnions, specs.Masks.{CanBeBad, all_of}}
use Rattle.olap_cube_summ.specs.declared.families.Family.{Family}
use Rattle.olap_cube_summ.proofs.families.first_families.Given as goal

abbrev pub invariant-dimensions : goal.invariant-dimensions
invariant-dimensions l = record {
  greedy : (xs : List Family) → GreedyOf l.sources (drop l.i l.dimensions) l.done.items xs
      → GreedyOf l.sources l.dimensions [] (l.first.items ++ xs);
  unions : AreUnions (drop l.i l.dimensions) (drop l.i l.sets);
  bad : CanBeBad l.sources (l.done.items ++ drop l.i l.sets) (all_of l.sources);
}
