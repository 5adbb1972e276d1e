-- Cutting a line from left to right, by a version of the text.
--     Cut          the states of the machine
--     mark_of      the mark that a byte is by itself
--     cut_step     after one more byte
--     cut_ended    at the end of the line
--     tokens_of    the tokens of a line, if it can be cut
use Rattle.std.specs.Prelude.{◌==◌, ◌&&◌, ℕ, List, [], ◌∷◌, ◌++◌, Option, Some, None, if◌then◌else◌}
use Rattle.std.specs.List.{fold}
use Rattle.std.specs.Char.{is_ascii_digit}
use Rattle.olap_base.specs.Bytes.{ampersand, backslash, caret, colon, comma, equals_sign, exclamation_mark, greater_than_sign, hyphen, left_parenthesis, less_than_sign, quotation_mark, right_parenthesis, space, tab, vertical_bar}
use Rattle.olap_grammar.specs.Cutting.{has_numbers, is_word_byte}
use Rattle.olap_grammar.specs.declared.tokens.Token.{Token}
use Rattle.olap_grammar.specs.declared.tokens.Token.TheVariants as token
use Rattle.olap_grammar.specs.declared.tokens.Mark.{Mark}
use Rattle.olap_grammar.specs.declared.tokens.Mark.TheVariants as mark
use Rattle.olap_grammar.specs.declared.tokens.Joint.TheVariants as joint
use Rattle.olap_grammar.specs.declared.tokens.Version.{Version}

-- the tokens so far, and what was begun: nothing, a word, a string, an escape in one, a number with its sign, `-`, `<`
-- or `<-`
pub data Cut : Type 0 where
  Between : List Token → Cut
  InWord : List Token → List ℕ → Cut
  InQuotes : List Token → List ℕ → Cut
  Escaped : List Token → List ℕ → Cut
  InSigned : List Token → List ℕ → Cut
  Dash : List Token → Cut
  Less : List Token → Cut
  LessDash : List Token → Cut
  Stuck : Cut

-- the mark that the byte is by itself
abbrev pub mark_of : ℕ → Option Mark
mark_of b =
    if b == left_parenthesis then Some mark.Open
    else if b == right_parenthesis then Some mark.Close
    else if b == comma then Some mark.Comma
    else if b == colon then Some mark.Colon
    else if b == equals_sign then Some mark.Equal
    else if b == exclamation_mark then Some mark.Not
    else if b == caret then Some (mark.Joint joint.Xor)
    else if b == vertical_bar then Some (mark.Joint joint.Or)
    else if b == ampersand then Some (mark.Joint joint.And)
    else None

-- after a byte that is this mark, or none
abbrev pub marked : List Token → Option Mark → Cut
marked ts None = Stuck
marked ts (Some m) = Between (ts ++ token.Mark m ∷ [])

-- after a byte where nothing was begun
abbrev pub between : List Token → ℕ → Cut
between ts b =
    if is_word_byte b then InWord ts (b ∷ [])
    else if b == space then Between ts
    else if b == tab then Between ts
    else if b == quotation_mark then InQuotes ts []
    else if b == hyphen then Dash ts
    else if b == less_than_sign then Less ts
    else marked ts (mark_of b)

-- after a `-`, and a byte with which it is no arrow
abbrev pub after_dash : Version → List Token → ℕ → Cut
after_dash v ts b = if has_numbers v && is_ascii_digit b then InSigned ts (hyphen ∷ b ∷ []) else Stuck

-- after a `<`, and a byte that isn't `-`
abbrev pub after_less : Version → List Token → ℕ → Cut
after_less v ts b =
    if has_numbers v then (if b == equals_sign then Between (ts ++ token.Mark mark.AtMost ∷ [])
    else between (ts ++ token.Mark mark.Less ∷ []) b)
    else Stuck

-- after one more byte
abbrev pub cut_step : Version → Cut → ℕ → Cut
cut_step v (Between ts) b = between ts b
cut_step v (InWord ts w) b = if is_word_byte b then InWord ts (w ++ b ∷ []) else between (ts ++ token.Word w ∷ []) b
cut_step v (InSigned ts w) b =
    if is_word_byte b then InSigned ts (w ++ b ∷ []) else between (ts ++ token.Signed w ∷ []) b
cut_step v (InQuotes ts k) b =
    if b == quotation_mark then Between (ts ++ token.Quoted k ∷ [])
    else if b == backslash then Escaped ts k
    else InQuotes ts (k ++ b ∷ [])
cut_step v (Escaped ts k) b =
    if b == quotation_mark then InQuotes ts (k ++ b ∷ [])
    else if b == backslash then InQuotes ts (k ++ b ∷ [])
    else Stuck
cut_step v (Dash ts) b =
    if b == greater_than_sign then Between (ts ++ token.Mark (mark.Joint joint.Implies) ∷ []) else after_dash v ts b
cut_step v (Less ts) b = if b == hyphen then LessDash ts else after_less v ts b
cut_step v (LessDash ts) b =
    if b == greater_than_sign then Between (ts ++ token.Mark (mark.Joint joint.Iff) ∷ [])
    else after_dash v (ts ++ token.Mark mark.Less ∷ []) b
cut_step v Stuck b = Stuck

-- at the end of the line
abbrev pub cut_ended : Version → Cut → Option (List Token)
cut_ended v (Between ts) = Some ts
cut_ended v (InWord ts w) = Some (ts ++ token.Word w ∷ [])
cut_ended v (InSigned ts w) = Some (ts ++ token.Signed w ∷ [])
cut_ended v (Less ts) = if has_numbers v then Some (ts ++ token.Mark mark.Less ∷ []) else None
cut_ended v c = None

-- the tokens that the line is cut into, if it can be
unfoldable pub tokens_of : Version → List ℕ → Option (List Token)
tokens_of v line = cut_ended v (fold (cut_step v) (Between []) line)
