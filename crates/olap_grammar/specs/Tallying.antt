-- The tally of tokens, gone over from the left.
--     counted_nodes      how far nodes are counted
--     nothing_tallied    of no token
--     added, tallied     one token more
--     brackets           the brackets that were counted
--     HasRoom            one more can be counted
use Rattle.std.specs.Prelude.{◌<◌, ◌||◌, ◌&&◌, ◌+◌, ◌-◌, ◌^◌, ℕ, false, not, nat_lt, if◌then◌else◌}
use Rattle.olap_base.specs.Limits.{most_depth, most_nodes}
use Rattle.olap_grammar.specs.Nodes.{compares, is_node}
use Rattle.olap_grammar.specs.declared.tallying.Tally.{Tally}
use Rattle.olap_grammar.specs.declared.tokens.Token.{Token}
use Rattle.olap_grammar.specs.declared.tokens.Token.TheVariants as token
use Rattle.olap_grammar.specs.declared.tokens.Mark.TheVariants as mark
use Rattle.olap_grammar.specs.declared.tokens.Version.{Version}

-- nodes are counted up to here: more than a formula may have, and the three tokens before it
abbrev pub counted_nodes : ℕ
counted_nodes = most_nodes + 4

-- nothing is counted yet
abbrev pub nothing_tallied : Tally
nothing_tallied = record { nodes = 0; opened = 0; closed = 0; too_deep = false; is_compared = false }

-- one node more
abbrev pub counted : ℕ → ℕ
counted n = if nat_lt n counted_nodes then n + 1 else n

-- one token more: a `(`, a `)`, a node, or none of these
abbrev pub added : Tally → Token → Tally
added y (token.Mark mark.Open) =
    record y { opened = y.opened + 1; too_deep = y.too_deep || nat_lt most_depth (y.opened + 1 - y.closed) }
added y (token.Mark mark.Close) = record y { closed = y.closed + 1 }
added y t = if not y.is_compared && is_node t then record y { nodes = counted y.nodes } else y

-- and whether what comes next is compared with
abbrev pub tallied : Version → Tally → Token → Tally
tallied v y t = record (added y t) { is_compared = compares v t }

-- the brackets that were counted
abbrev pub brackets : Tally → ℕ
brackets y = y.opened + y.closed

-- one more can be counted: a line has fewer bytes
abbrev pub HasRoom : Tally → Type 0
HasRoom y = brackets y < 2 ^ 63
