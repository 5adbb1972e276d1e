-- The roller has taken the bytes so far.
use Rattle.std.proofs.Common.{◌≡◌, ◌≤◌, ◌<◌, ◌+◌, ◌-◌, ◌^◌, true, length}
use Rattle.olap_outside.specs.Pieces.{EndsTold, IsKept}
use Rattle.olap_cube_views.specs.Dimensions.{categories_in, graphs_of, instances_in}
use Rattle.olap_cubes.proofs.RollingLemmas.{IsSoFar}
use Rattle.olap_cubes.proofs.rolling.rolled_up_on.Given as goal

abbrev pub invariant-pieces : goal.invariant-pieces
invariant-pieces g l = let lib = g.L.Library in record {
  so_far : IsSoFar (lib.rest l.fn.lib) (lib.rest l.lib) l.count (graphs_of l.graphs)
      (instances_in l.columns) (categories_in l.columns) l.roller;
  end : l.count < 65536 → EndsTold (lib.rest l.fn.lib) (lib.rest l.lib);
  most : l.count ≤ 65536;
  few : l.count ≡ 65536 → lib.taken l.lib < 2 ^ 64;
  size : length l.piece ≡ 65536;
  ready : lib.ready l.lib ≡ true;
  later : lib.faults l.fn.lib ≤ lib.faults l.lib;
  kept : IsKept lib l.fn.lib l.lib;
}

-- a piece that isn't whole is the last
abbrev pub decreases-pieces : goal.decreases-pieces
decreases-pieces g l = let lib = g.L.Library in 2 ^ 64 - lib.taken l.lib + l.count
