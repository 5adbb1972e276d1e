-- The tokens that a line is cut into, by a version of the text.
--     is_word_byte          bytes of which words are made
--     mark_bytes            how a mark is spelt
--     has_numbers           the version that has numbers and comparisons
--     EndsWord, IsLongest   where a word ends, and the longest mark
--     Spells                what the bytes between two quotes stand for
--     IsCut                 the tokens that a line is cut into
use Rattle.std.specs.Prelude.{◌≡◌, ◌==◌, ◌≤◌, ◌||◌, ℕ, Bool, true, false, List, [], ◌∷◌, ◌++◌, codes, length}
use Rattle.std.specs.Char.{is_ascii_alphanumeric, is_ascii_digit}
use Rattle.std.specs.List.{AllByRecursion}
use Rattle.olap_base.specs.Bytes.{backslash, full_stop, hyphen, quotation_mark, space, tab, underscore}
use Rattle.olap_grammar.specs.declared.tokens.Token.{Token}
use Rattle.olap_grammar.specs.declared.tokens.Token.TheVariants as token
use Rattle.olap_grammar.specs.declared.tokens.Mark.{Mark}
use Rattle.olap_grammar.specs.declared.tokens.Mark.TheVariants as mark
use Rattle.olap_grammar.specs.declared.tokens.Joint.{Joint}
use Rattle.olap_grammar.specs.declared.tokens.Joint.TheVariants as joint
use Rattle.olap_grammar.specs.declared.tokens.Version.{Version}
use Rattle.olap_grammar.specs.declared.tokens.Version.TheVariants as version

-- a letter, a digit, `_` or `.`
abbrev pub is_word_byte : ℕ → Bool
is_word_byte b = is_ascii_alphanumeric b || (b == underscore) || (b == full_stop)

-- no word goes on here
abbrev pub EndsWord : List ℕ → Type 0
EndsWord [] = Unit {0}
EndsWord (b ∷ bs) = is_word_byte b ≡ false

-- how a connective of two formulas is spelt
abbrev pub joint_bytes : Joint → List ℕ
joint_bytes joint.Iff = codes "<->"
joint_bytes joint.Implies = codes "->"
joint_bytes joint.Xor = codes "^"
joint_bytes joint.Or = codes "|"
joint_bytes joint.And = codes "&"

-- how a mark is spelt
abbrev pub mark_bytes : Mark → List ℕ
mark_bytes mark.Open = codes "("
mark_bytes mark.Close = codes ")"
mark_bytes mark.Comma = codes ","
mark_bytes mark.Colon = codes ":"
mark_bytes mark.Equal = codes "="
mark_bytes mark.Less = codes "<"
mark_bytes mark.AtMost = codes "<="
mark_bytes mark.Not = codes "!"
mark_bytes (mark.Joint j) = joint_bytes j

-- numbers and comparisons may stand there
abbrev pub has_numbers : Version → Bool
has_numbers version.One = false
has_numbers version.Two = true

-- the mark is one of the version
abbrev pub IsMarkIn : Mark → Version → Type 0
IsMarkIn mark.Less v = v ≡ version.Two
IsMarkIn mark.AtMost v = v ≡ version.Two
IsMarkIn m v = Unit {0}

-- if this mark stands before these bytes, no mark of the version that is longer begins there
abbrev pub IsLongest : Version → Mark → List ℕ → Type 0
IsLongest v m bs = (n : Mark) (rest : List ℕ) → IsMarkIn n v → mark_bytes n ++ rest ≡ mark_bytes m ++ bs
    → length (mark_bytes n) ≤ length (mark_bytes m)

-- all are bytes of words
abbrev pub AreWordBytes : List ℕ → Type 0
AreWordBytes bs = AllByRecursion (λ b. is_word_byte b ≡ true) bs

-- the bytes between two quotes stand for this text
pub data Spells : List ℕ → List ℕ → Type 0 where
  nothing : Spells [] []
  quote : {bs k : List ℕ} → Spells bs k → Spells (backslash ∷ quotation_mark ∷ bs) (quotation_mark ∷ k)
  slash : {bs k : List ℕ} → Spells bs k → Spells (backslash ∷ backslash ∷ bs) (backslash ∷ k)
  other : {b : ℕ} {bs k : List ℕ} → b == quotation_mark ≡ false → b == backslash ≡ false → Spells bs k
      → Spells (b ∷ bs) (b ∷ k)

-- the line is cut into these tokens
pub data IsCut (v : Version) : List ℕ → List Token → Type 0 where
  end : IsCut v [] []
  blank : {bs : List ℕ} {ts : List Token} → IsCut v bs ts → IsCut v (space ∷ bs) ts
  tabbed : {bs : List ℕ} {ts : List Token} → IsCut v bs ts → IsCut v (tab ∷ bs) ts
  word : (b : ℕ) (w : List ℕ) {bs : List ℕ} {ts : List Token} → AreWordBytes (b ∷ w) → EndsWord bs → IsCut v bs ts
      → IsCut v ((b ∷ w) ++ bs) (token.Word (b ∷ w) ∷ ts)
  quoted : {body k bs : List ℕ} {ts : List Token} → Spells body k → IsCut v bs ts
      → IsCut v (quotation_mark ∷ (body ++ quotation_mark ∷ bs)) (token.Quoted k ∷ ts)
  signed : (d : ℕ) (w : List ℕ) {bs : List ℕ} {ts : List Token} → v ≡ version.Two → is_ascii_digit d ≡ true
      → AreWordBytes w → EndsWord bs → IsCut v bs ts
      → IsCut v (hyphen ∷ d ∷ (w ++ bs)) (token.Signed (hyphen ∷ d ∷ w) ∷ ts)
  marked : (m : Mark) {bs : List ℕ} {ts : List Token} → IsMarkIn m v → IsLongest v m bs → IsCut v bs ts
      → IsCut v (mark_bytes m ++ bs) (token.Mark m ∷ ts)
