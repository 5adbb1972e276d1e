-- This many bytes were taken, and they stand in the piece.
use Rattle.std.{proofs.Common.{◌≡◌, ◌<◌, ◌≤◌, ◌+◌, ◌-◌, ◌^◌, true, length, take}, specs.Io.KnownBytes.Consumes}
use Rattle.olap_outside.specs.Pieces.{IsKept}
use Rattle.olap_outside.proofs.filling.fill.Given as goal

abbrev pub invariant-fills : goal.invariant-fills
invariant-fills g l = let lib = g.L.Library in record {
  at : l.at ≤ length l.piece;
  size : length l.piece ≡ length l.fn.piece;
  bytes : Consumes (lib.rest l.fn.lib) (lib.rest l.lib) (take l.at l.piece);
  taken : lib.taken l.lib ≡ lib.taken l.fn.lib + l.at;
  few : 0 < l.at → lib.taken l.lib < 2 ^ 64;
  ready : lib.ready l.lib ≡ true;
  later : lib.faults l.fn.lib ≤ lib.faults l.lib;
  kept : IsKept lib l.fn.lib l.lib;
}

abbrev pub decreases-fills : goal.decreases-fills
decreases-fills g l = length l.fn.piece - l.at
