-- The nodes so far are counted, and whether what comes next is compared with is known.
use Rattle.std.proofs.Common.{◌≡◌, ◌+◌, ◌≤◌, length}
use Rattle.olap_grammar.specs.Nodes.{nodes_behind, nodes_of}
use Rattle.olap_schema_text.proofs.measuring.nodes.Given as goal

abbrev pub invariant-tokens : goal.invariant-tokens
invariant-tokens l = record {
  counted : l.count + nodes_behind l.version l.is_compared l.left ≡ nodes_of l.version l.fn.tokens;
  few : l.count + length l.left ≤ length l.fn.tokens;
}

abbrev pub decreases-tokens : goal.decreases-tokens
decreases-tokens l = length l.left
