use Rattle.std.proofs.Common.{◌≡◌, length, take}
use Rattle.olap_plain.proofs.searching.put_names.Given as goal

abbrev pub invariant-names : goal.invariant-names
invariant-names l = record {
  same_length : length l.into ≡ length l.names;
  same : take l.c l.into ≡ take l.c l.names;
}
