use Rattle.std.{proofs.Common.{◌≡◌, drop}, specs.List.position_from, specs.Str.bytes_eq}
use Rattle.olap_dimsat.proofs.knowing.place.Given as goal

-- no text so far is the one sought
abbrev pub invariant-texts : goal.invariant-texts
invariant-texts l = position_from (bytes_eq l.text) 0 l.texts ≡ position_from (bytes_eq l.text) l.i (drop l.i l.texts)
