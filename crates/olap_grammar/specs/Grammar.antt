-- The grammar: which lists of tokens are a formula, and of which tree.
--     level, left_level, right_level    how tightly a connective binds, and what may stand on its sides
--     comparing, digits_of              how comparisons are written
--     Atoms                             what words stand for
--     IsFormula                         the tokens are a formula, with its tree
--     IsList, IsItems                   the tokens are the parts of a list
use Rattle.std.specs.Prelude.{◌≡◌, ℕ, suc, List, [], ◌∷◌, ◌++◌, Option, Some, None, codes}
use Rattle.olap_numerals.specs.Comparing.{Op}
use Rattle.olap_grammar.specs.Forms as words
use Rattle.olap_grammar.specs.Forms.{Form, Forms}
use Rattle.olap_grammar.specs.declared.tokens.Token.{Token}
use Rattle.olap_grammar.specs.declared.tokens.Token.TheVariants as token
use Rattle.olap_grammar.specs.declared.tokens.Mark.{Mark}
use Rattle.olap_grammar.specs.declared.tokens.Mark.TheVariants as mark
use Rattle.olap_grammar.specs.declared.tokens.Joint.{Joint}
use Rattle.olap_grammar.specs.declared.tokens.Joint.TheVariants as joint

-- how tightly a connective binds, from the loosest, 1, to the tightest
abbrev pub level : Joint → ℕ
level joint.Iff = 1
level joint.Implies = 2
level joint.Xor = 3
level joint.Or = 4
level joint.And = 5

-- the least level of what stands to the left: the same where the grouping is to the left
abbrev pub left_level : Joint → ℕ
left_level joint.Implies = 3
left_level j = level j

-- the least level of what stands to the right
abbrev pub right_level : Joint → ℕ
right_level joint.Implies = 2
right_level j = suc (level j)

-- the mark of a comparison
abbrev pub comparing : Op → Mark
comparing Op.Equal = mark.Equal
comparing Op.Less = mark.Less
comparing Op.AtMost = mark.AtMost

-- the bytes of a token that may spell a number
abbrev pub digits_of : Token → Option (List ℕ)
digits_of (token.Word w) = Some w
digits_of (token.Signed w) = Some w
digits_of t = None

-- what a word is by itself, with a string, and with the digits of a number
pub record Atoms (A : Type 0) : Type 0 where
  pub plain : List ℕ → Option A
  pub equal : List ℕ → List ℕ → Option A
  pub compare : List ℕ → Op → List ℕ → Option A

mutual
  -- the tokens are a formula of the level, or of a tighter one, with this tree
  pub data IsFormula (a : Atoms Form) : ℕ → List Token → Form → Type 0 where
    looser : {n : ℕ} {ts : List Token} {f : Form} → IsFormula a (suc n) ts f → IsFormula a n ts f
    joined : (j : Joint) {left right : List Token} {f g : Form} → IsFormula a (left_level j) left f
        → IsFormula a (right_level j) right g
        → IsFormula a (level j) (left ++ token.Mark (mark.Joint j) ∷ right) (words.Form.Joined j f g)
    negated : {ts : List Token} {f : Form} → IsFormula a 6 ts f
        → IsFormula a 6 (token.Mark mark.Not ∷ ts) (words.Form.Not f)
    bracketed : {ts : List Token} {f : Form} → IsFormula a 1 ts f
        → IsFormula a 7 (token.Mark mark.Open ∷ (ts ++ token.Mark mark.Close ∷ [])) f
    listed : {ts : List Token} {fs : Forms} → IsList a ts fs
        → IsFormula a 7 (token.Word (codes "one") ∷ token.Mark mark.Open ∷ (ts ++ token.Mark mark.Close ∷ []))
        (words.Form.One fs)
    plain : {w : List ℕ} {f : Form} → a.plain w ≡ Some f → IsFormula a 7 (token.Word w ∷ []) f
    equal : {w k : List ℕ} {f : Form} → a.equal w k ≡ Some f
        → IsFormula a 7 (token.Word w ∷ token.Mark mark.Equal ∷ token.Quoted k ∷ []) f
    compared : (op : Op) (t : Token) {w digits : List ℕ} {f : Form} → digits_of t ≡ Some digits
        → a.compare w op digits ≡ Some f → IsFormula a 7 (token.Word w ∷ token.Mark (comparing op) ∷ t ∷ []) f

  -- the tokens are no, one or more formulas with commas between them
  pub data IsList (a : Atoms Form) : List Token → Forms → Type 0 where
    none : IsList a [] words.Forms.End
    some : {ts : List Token} {fs : Forms} → IsItems a ts fs → IsList a ts fs

  -- the tokens are one or more formulas with commas between them
  pub data IsItems (a : Atoms Form) : List Token → Forms → Type 0 where
    last : {ts : List Token} {f : Form} → IsFormula a 1 ts f → IsItems a ts (words.Forms.More f words.Forms.End)
    more : {ts us : List Token} {f : Form} {fs : Forms} → IsFormula a 1 ts f → IsItems a us fs
        → IsItems a (ts ++ token.Mark mark.Comma ∷ us) (words.Forms.More f fs)
