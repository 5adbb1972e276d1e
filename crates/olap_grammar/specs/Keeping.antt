-- Cutting a line where only the first tokens are kept, and the others are counted with them.
--     Kept            what is kept of tokens
--     keep            one token more
--     Going           the states of `CuttingMachine`, over what is kept
--     kept_tokens     what is kept of the tokens that a line is cut into
--     Begins          what was kept is a beginning of the tokens
--     IsTallyOf       what was counted is so of the tokens
use Rattle.std.specs.Prelude.{◌≡◌, ◌≤◌, ◌<◌, ◌==◌, ◌&&◌, ℕ, Bool, true, false, List, [], ◌∷◌, ◌++◌, Option, Some, None, length, nat_lt, if◌then◌else◌}
use Rattle.std.specs.List.{fold}
use Rattle.olap_base.specs.Bytes.{backslash, equals_sign, greater_than_sign, hyphen, less_than_sign, quotation_mark, space, tab}
use Rattle.olap_grammar.specs.Brackets.{opens_over}
use Rattle.olap_grammar.specs.Cutting.{is_word_byte}
use Rattle.std.specs.Char.{is_ascii_digit}
use Rattle.olap_grammar.specs.Cutting.{has_numbers}
use Rattle.olap_grammar.specs.CuttingMachine.{mark_of}
use Rattle.olap_grammar.specs.Nodes.{nodes_of}
use Rattle.olap_grammar.specs.Tallying.{counted_nodes, nothing_tallied, tallied}
use Rattle.olap_grammar.specs.declared.tallying.Tally.{Tally}
use Rattle.olap_grammar.specs.declared.tokens.Token.{Token}
use Rattle.olap_grammar.specs.declared.tokens.Token.TheVariants as token
use Rattle.olap_grammar.specs.declared.tokens.Mark.{Mark}
use Rattle.olap_grammar.specs.declared.tokens.Mark.TheVariants as mark
use Rattle.olap_grammar.specs.declared.tokens.Joint.TheVariants as joint
use Rattle.olap_grammar.specs.declared.tokens.Version.{Version}

-- how many tokens are kept at most, those kept, whether there are more, and what was counted of all
pub record Kept : Type 0 where
  pub most : ℕ
  pub first : List Token
  pub more : Bool
  pub tally : Tally

-- one token more, which is kept while there is room
abbrev pub keep : Version → Kept → Token → Kept
keep v k t =
    if nat_lt (length k.first) k.most then
    record { most = k.most; first = k.first ++ t ∷ []; more = k.more; tally = tallied v k.tally t }
    else record { most = k.most; first = k.first; more = true; tally = tallied v k.tally t }

-- no token yet, with room to keep this many
abbrev pub nothing_kept : ℕ → Kept
nothing_kept most = record { most = most; first = []; more = false; tally = nothing_tallied }

-- ---- the cutter

pub data Going : Type 0 where
  Between : Kept → Going
  InWord : Kept → List ℕ → Going
  InQuotes : Kept → List ℕ → Going
  Escaped : Kept → List ℕ → Going
  InSigned : Kept → List ℕ → Going
  Dash : Kept → Going
  Less : Kept → Going
  LessDash : Kept → Going
  Stuck : Going

-- after a byte that is this mark, or none
abbrev pub marked : Version → Kept → Option Mark → Going
marked v k None = Stuck
marked v k (Some m) = Between (keep v k (token.Mark m))

-- after a byte where nothing was begun
abbrev pub between : Version → Kept → ℕ → Going
between v k b =
    if is_word_byte b then InWord k (b ∷ [])
    else if b == space then Between k
    else if b == tab then Between k
    else if b == quotation_mark then InQuotes k []
    else if b == hyphen then Dash k
    else if b == less_than_sign then Less k
    else marked v k (mark_of b)

-- after a `-`, and a byte with which it is no arrow
abbrev pub after_dash : Version → Kept → ℕ → Going
after_dash v k b = if has_numbers v && is_ascii_digit b then InSigned k (hyphen ∷ b ∷ []) else Stuck

-- after a `<`, and a byte that isn't `-`
abbrev pub after_less : Version → Kept → ℕ → Going
after_less v k b =
    if has_numbers v then (if b == equals_sign then Between (keep v k (token.Mark mark.AtMost))
    else between v (keep v k (token.Mark mark.Less)) b)
    else Stuck

-- after one more byte
abbrev pub kept_step : Version → Going → ℕ → Going
kept_step v (Between k) b = between v k b
kept_step v (InWord k w) b = if is_word_byte b then InWord k (w ++ b ∷ []) else between v (keep v k (token.Word w)) b
kept_step v (InSigned k w) b =
    if is_word_byte b then InSigned k (w ++ b ∷ []) else between v (keep v k (token.Signed w)) b
kept_step v (InQuotes k q) b =
    if b == quotation_mark then Between (keep v k (token.Quoted q))
    else if b == backslash then Escaped k q
    else InQuotes k (q ++ b ∷ [])
kept_step v (Escaped k q) b =
    if b == quotation_mark then InQuotes k (q ++ b ∷ [])
    else if b == backslash then InQuotes k (q ++ b ∷ [])
    else Stuck
kept_step v (Dash k) b =
    if b == greater_than_sign then Between (keep v k (token.Mark (mark.Joint joint.Implies))) else after_dash v k b
kept_step v (Less k) b = if b == hyphen then LessDash k else after_less v k b
kept_step v (LessDash k) b =
    if b == greater_than_sign then Between (keep v k (token.Mark (mark.Joint joint.Iff)))
    else after_dash v (keep v k (token.Mark mark.Less)) b
kept_step v Stuck b = Stuck

-- at the end of the line
abbrev pub kept_ended : Version → Going → Option Kept
kept_ended v (Between k) = Some k
kept_ended v (InWord k w) = Some (keep v k (token.Word w))
kept_ended v (InSigned k w) = Some (keep v k (token.Signed w))
kept_ended v (Less k) = if has_numbers v then Some (keep v k (token.Mark mark.Less)) else None
kept_ended v c = None

-- what is kept of the tokens that the line is cut into, if it can be
unfoldable pub kept_tokens : Version → ℕ → List ℕ → Option Kept
kept_tokens v most line = kept_ended v (fold (kept_step v) (Between (nothing_kept most)) line)

-- ---- what is kept of tokens

-- the nodes, as far as they are counted, and whether too many brackets are open
pub record IsTallyOf (v : Version) (y : Tally) (ts : List Token) : Type 0 where
  pub few : y.nodes ≤ nodes_of v ts
  pub nodes : y.nodes < counted_nodes → y.nodes ≡ nodes_of v ts
  pub too_deep : y.too_deep ≡ opens_over 0 0 ts

-- the tokens begin with those kept: with all of them, or else with as many as may be kept, and others are left; what
-- was counted is so of all
pub record Begins (v : Version) (k : Kept) (ts : List Token) : Type 0 where
  pub rest : List Token
  pub parts : ts ≡ k.first ++ rest
  pub all : k.more ≡ false → rest ≡ []
  pub full : k.more ≡ true → k.most ≤ length k.first
  pub others : k.more ≡ true → 0 < length rest
  pub tally : IsTallyOf v k.tally ts

-- what was kept begins the tokens that were found
abbrev pub BeginsFound : Version → Kept → Option (List Token) → Type 0
BeginsFound v k found = (ts : List Token) × (found ≡ Some ts) × Begins v k ts
