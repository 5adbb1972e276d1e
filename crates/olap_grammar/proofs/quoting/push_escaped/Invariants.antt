-- The bytes so far stand after the earlier ones.
use Rattle.std.proofs.Common.{◌≡◌, ◌++◌, flat_map, length}
use Rattle.olap_grammar.specs.Quoting.{escaped_byte}
use Rattle.olap_grammar.proofs.quoting.push_escaped.Given as goal

abbrev pub invariant-bytes : goal.invariant-bytes
invariant-bytes l = l.out.items ++ flat_map escaped_byte l.left ≡ l.initial.out.items ++ flat_map escaped_byte l.fn.text

abbrev pub decreases-bytes : goal.decreases-bytes
decreases-bytes l = length l.left
