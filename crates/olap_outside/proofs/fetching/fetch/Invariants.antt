use Rattle.std.proofs.Common.{◌≡◌, ◌+◌, ◌≤◌, true, length, is_some}
use Rattle.olap_outside.{proofs.Reading.SoFar, specs.Files.Asks}
use Rattle.olap_outside.proofs.fetching.fetch.Given as goal

-- what was taken are the bytes so far, and they stand at the front of the content
abbrev pub invariant-pieces : goal.invariant-pieces
invariant-pieces g l =
    let lib = g.L.Library in
    record {
      content : SoFar (lib.contents l.fn.lib) l.name l.bytes.items (lib.rest l.lib);
      room : length l.bytes.items + l.room ≡ l.limit;
      taken : lib.taken l.lib ≡ length l.bytes.items;
      ready : lib.ready l.lib ≡ true;
      same : lib.contents l.lib ≡ lib.contents l.fn.lib;
      asked : Asks (lib.contents l.fn.lib) l.name (lib.asked l.lib);
      told : is_some (lib.asked l.lib) ≡ is_some (lib.asked l.fn.lib);
      later : lib.faults l.fn.lib ≤ lib.faults l.lib;
      sure : lib.sure l.lib ≡ lib.sure l.fn.lib;
    }

-- how much room is left
abbrev pub decreases-pieces : goal.decreases-pieces
decreases-pieces g l = l.room
