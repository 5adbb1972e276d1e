use Rattle.std.proofs.Common.{◌≡◌, ◌+◌, ◌≤◌, length}
use Rattle.olap_grammar.specs.Brackets.{opens_over}
use Rattle.olap_schema_text.proofs.measuring.opens_too_deep.Given as goal

abbrev pub invariant-tokens : goal.invariant-tokens
invariant-tokens l = (opens_over 0 0 l.fn.tokens ≡ opens_over l.opened l.closed l.left)
    × (l.opened + l.closed + length l.left ≤ length l.fn.tokens)

abbrev pub decreases-tokens : goal.decreases-tokens
decreases-tokens l = length l.left
