-- The tokens that are nodes of a formula's tree.
--     is_node      the token is one, unless it is compared with
--     nodes_of     how many nodes the tokens have
use Rattle.std.specs.Prelude.{◌&&◌, ◌+◌, ℕ, Bool, true, false, not, List, [], ◌∷◌, if◌then◌else◌}
use Rattle.olap_grammar.specs.declared.tokens.Token.{Token}
use Rattle.olap_grammar.specs.declared.tokens.Token.TheVariants as token
use Rattle.olap_grammar.specs.declared.tokens.Mark.TheVariants as mark
use Rattle.olap_grammar.specs.declared.tokens.Version.{Version}
use Rattle.olap_grammar.specs.declared.tokens.Version.TheVariants as version

-- a word, or a mark that is part of a formula's tree
abbrev pub is_node : Token → Bool
is_node (token.Word w) = true
is_node (token.Mark mark.Not) = true
is_node (token.Mark (mark.Joint j)) = true
is_node t = false

-- a mark before a number: `=`, `<` or `<=`, in the version that has numbers
abbrev pub compares : Version → Token → Bool
compares version.Two (token.Mark mark.Equal) = true
compares version.Two (token.Mark mark.Less) = true
compares version.Two (token.Mark mark.AtMost) = true
compares v t = false

-- the number of nodes of these tokens, the first of which doesn't count if it comes right after a comparing mark
unfoldable pub nodes_behind : Version → Bool → List Token → ℕ
nodes_behind v after [] = 0
nodes_behind v after (t ∷ ts) = (if not after && is_node t then 1 else 0) + nodes_behind v (compares v t) ts

-- how many nodes the tokens have
abbrev pub nodes_of : Version → List Token → ℕ
nodes_of v ts = nodes_behind v false ts
