-- The checks of a formula's tokens that look at no graph. That too many brackets are open is one more: `opens_over` of
-- `olap_grammar`.
--     names_in        the names in a word
--     is_long_name    a name is too long
--     is_long         a name or a string is too long
--     is_bad_number   a number is beyond the bounds of numerals, or has too many digits
use Rattle.std.specs.Prelude.{◌&&◌, ℕ, Bool, false, not, List, length, nat_lt, is_some, option_map, unwrap_or, if◌then◌else◌}
use Rattle.std.specs.List.{list_any}
use Rattle.olap_base.specs.Bytes.{full_stop, underscore}
use Rattle.olap_base.specs.Limits.{most_text_bytes}
use Rattle.olap_numerals.specs.Numerals.{number_of}
use Rattle.olap_grammar.specs.Grammar.{digits_of}
use Rattle.olap_grammar.specs.Words.{is_number_token, pieces_of}
use Rattle.olap_grammar.specs.declared.tokens.Token.{Token}
use Rattle.olap_grammar.specs.declared.tokens.Token.TheVariants as token

-- the names in the word of an atom
abbrev pub names_in : List ℕ → List (List ℕ)
names_in w = if nat_lt 1 (length (pieces_of underscore w)) then pieces_of underscore w else pieces_of full_stop w

-- a name has too many bytes
abbrev pub is_long_name : List ℕ → Bool
is_long_name name = nat_lt most_text_bytes (length name)

-- a name in the word, if it is no number, or the string, has too many bytes
unfoldable pub is_long : Token → Bool
is_long (token.Word w) = not (is_number_token w) && list_any is_long_name (names_in w)
is_long (token.Quoted k) = nat_lt most_text_bytes (length k)
is_long t = false

-- the bytes are a number token and no numeral
abbrev pub is_no_numeral : List ℕ → Bool
is_no_numeral w = is_number_token w && not (is_some (number_of w))

-- the token is a number, and no numeral
unfoldable pub is_bad_number : Token → Bool
is_bad_number t = unwrap_or (option_map is_no_numeral (digits_of t)) false
