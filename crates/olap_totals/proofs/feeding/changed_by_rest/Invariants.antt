-- The changer has taken the bytes so far.
use Rattle.std.proofs.Common.{◌≡◌, ◌≤◌, ◌<◌, ◌+◌, ◌-◌, ◌^◌, true, length}
use Rattle.olap_outside.specs.Pieces.{EndsTold, IsKept}
use Rattle.olap_view.specs.Seen.{views_of}
use Rattle.olap_totals.proofs.FeedingLemmas.{IsSoFar}
use Rattle.olap_totals.proofs.feeding.changed_by_rest.Given as goal

abbrev pub invariant-pieces : goal.invariant-pieces
invariant-pieces g l = let lib = g.L.Library in record {
  so_far : IsSoFar (lib.rest l.fn.lib) (lib.rest l.lib) l.count l.fn.change l.graph l.legal
      (views_of l.store) l.changer;
  end : l.count < 65536 → EndsTold (lib.rest l.fn.lib) (lib.rest l.lib);
  most : l.count ≤ 65536;
  few : l.count ≡ 65536 → lib.taken l.lib < 2 ^ 64;
  size : length l.piece ≡ 65536;
  ready : lib.ready l.lib ≡ true;
  later : lib.faults l.fn.lib ≤ lib.faults l.lib;
  kept : IsKept lib l.fn.lib l.lib;
}

-- a piece that isn't whole is the last
abbrev pub decreases-pieces : goal.decreases-pieces
decreases-pieces g l = let lib = g.L.Library in 2 ^ 64 - lib.taken l.lib + l.count
