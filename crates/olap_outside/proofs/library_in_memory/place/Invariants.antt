use Rattle.std.proofs.Common.{◌≡◌, drop}
use Rattle.olap_outside.specs.Files.{content_of}
use Rattle.olap_outside.proofs.library_in_memory.place.Given as goal

-- no file so far has the name
abbrev pub invariant-loop-i : goal.invariant-loop-i
invariant-loop-i l = content_of (drop l.i l.files) l.name ≡ content_of l.files l.name
