-- Brackets that are open, and how many tokens a formula may have.
--     opens_over      too many brackets are open
--     most_tokens     the most tokens of a formula of this many nodes that never opens too many
use Rattle.std.specs.Prelude.{◌+◌, ◌*◌, ℕ, Bool, true, false, List, [], ◌∷◌, nat_lt, if◌then◌else◌}
use Rattle.olap_base.specs.Limits.{most_depth}
use Rattle.olap_grammar.specs.declared.tokens.Token.{Token}
use Rattle.olap_grammar.specs.declared.tokens.Token.TheVariants as token
use Rattle.olap_grammar.specs.declared.tokens.Mark.TheVariants as mark

-- the token is `(`
abbrev pub is_open : Token → Bool
is_open (token.Mark mark.Open) = true
is_open t = false

-- the token is `)`
abbrev pub is_close : Token → Bool
is_close (token.Mark mark.Close) = true
is_close t = false

-- after this many `(` and this many `)`, some `(` is too far above the `)`
unfoldable pub opens_over : ℕ → ℕ → List Token → Bool
opens_over o c [] = false
opens_over o c (token.Mark mark.Open ∷ ts) =
    if nat_lt (c + most_depth) (o + 1) then true else opens_over (o + 1) c ts
opens_over o c (token.Mark mark.Close ∷ ts) = opens_over o (c + 1) ts
opens_over o c (t ∷ ts) = opens_over o c ts

-- for each node two brackets at each depth, and the three tokens of a word with a string
abbrev pub most_tokens : ℕ → ℕ
most_tokens nodes = (2 * most_depth + 3) * nodes
