-- Reading from left to right with a stack of what is still open, for whatever is built.
--     Making                                  how what is read is put together: as trees, or in another way
--     Frame                                   what is open
--     State                                   what was read last, and what is open
--     settled, closed, list_closed, parted    what a mark, a bracket, the end of a list and a comma close
--     step                                    after one more token
--     ended                                   at the end of the tokens
--     formula_read                            what the tokens are, put together in some way
--     the_formula                             the formula that the tokens are, if they are one
use Rattle.std.specs.Prelude.{ℕ, Bool, List, [], ◌∷◌, Option, Some, None, codes, cond, nat_le, nat_eq, option_and_then}
use Rattle.std.specs.Cmp.Lexicographic.{pointwise}
use Rattle.std.specs.List.{fold}
use Rattle.olap_numerals.specs.Comparing.{Op}
use Rattle.olap_grammar.specs.Forms as words
use Rattle.olap_grammar.specs.Forms.{Form, Forms}
use Rattle.olap_grammar.specs.Grammar.{Atoms, level, left_level}
use Rattle.olap_grammar.specs.declared.tokens.Token.{Token}
use Rattle.olap_grammar.specs.declared.tokens.Token.TheVariants as token
use Rattle.olap_grammar.specs.declared.tokens.Mark.TheVariants as mark
use Rattle.olap_grammar.specs.declared.tokens.Joint.{Joint}

-- how formulas (A) and the parts of a list (L) are put together
pub record Making (A L : Type 0) : Type 0 where
  pub negate : A → A
  pub join : Joint → A → A → A
  pub one : L → A
  pub end : L
  pub more : A → L → L

-- what is open: a `!`, a formula with a mark after it, a bracket, a list, a part of a list with its comma
pub data Frame (A : Type 0) : Type 0 where
  Negation : Frame A
  Left : Joint → A → Frame A
  Bracket : Frame A
  Listing : Frame A
  Part : A → Frame A

-- a formula is to come, or the end of an empty list too; a word, or a word with a mark that compares, was read; a
-- formula was read
pub data State (A : Type 0) : Type 0 where
  Wants : List (Frame A) → State A
  WantsPart : List (Frame A) → State A
  Named : List ℕ → List (Frame A) → State A
  Compared : List ℕ → Op → List (Frame A) → State A
  Has : A → List (Frame A) → State A
  Bad : State A

-- what is open of this level or a tighter one is closed
abbrev pub settled : {A L : Type 0} → Making A L → ℕ → A → List (Frame A) → A × List (Frame A)
settled m n f (Negation ∷ s) = settled m n (m.negate f) s
settled m n f (Left j g ∷ s) = cond (nat_le n (level j)) (settled m n (m.join j g f) s) (f, Left j g ∷ s)
settled m n f s = (f, s)

-- a list with these last parts is closed
abbrev pub list_closed : {A L : Type 0} → Making A L → L → List (Frame A) → State A
list_closed m fs (Listing ∷ s) = Has (m.one fs) s
list_closed m fs (Part f ∷ s) = list_closed m (m.more f fs) s
list_closed m fs s = Bad

-- the bracket or the list that is open is closed
abbrev pub closed : {A L : Type 0} → Making A L → A → List (Frame A) → State A
closed m f (Bracket ∷ s) = Has f s
closed m f s = list_closed m (m.more f m.end) s

-- the part before a comma stays open
abbrev pub parted : {A : Type 0} → A → List (Frame A) → State A
parted f (Listing ∷ s) = Wants (Part f ∷ Listing ∷ s)
parted f (Part g ∷ s) = Wants (Part f ∷ Part g ∷ s)
parted f s = Bad

-- after a formula
abbrev pub after : {A L : Type 0} → Making A L → A → List (Frame A) → Token → State A
after m f s (token.Mark (mark.Joint j)) = let r = settled m (left_level j) f s in Wants (Left j r.0 ∷ r.1)
after m f s (token.Mark mark.Close) = let r = settled m 1 f s in closed m r.0 r.1
after m f s (token.Mark mark.Comma) = let r = settled m 1 f s in parted r.0 r.1
after m f s t = Bad

-- where a formula is to come
abbrev pub begun : {A : Type 0} → List (Frame A) → Token → State A
begun s (token.Word w) = Named w s
begun s (token.Mark mark.Open) = Wants (Bracket ∷ s)
begun s (token.Mark mark.Not) = Wants (Negation ∷ s)
begun s t = Bad

-- where the first part of a list, or its end, is to come
abbrev pub begun_part : {A L : Type 0} → Making A L → List (Frame A) → Token → State A
begun_part m s (token.Mark mark.Close) = Has (m.one m.end) s
begun_part m s t = begun (Listing ∷ s) t

-- the word `one`, which begins a list
abbrev pub is_one : List ℕ → Bool
is_one w = pointwise nat_eq w (codes "one")

-- after a word that is this atom, or none
abbrev pub after_atom : {A L : Type 0} → Making A L → Option A → List (Frame A) → Token → State A
after_atom m None s t = Bad
after_atom m (Some f) s t = after m f s t

-- after a word: a list begins, a comparison goes on, or the word is an atom by itself
abbrev pub after_word : {A L : Type 0} → Making A L → Atoms A → List ℕ → List (Frame A) → Token → State A
after_word m a w s (token.Mark mark.Open) = cond (is_one w) (WantsPart s) Bad
after_word m a w s (token.Mark mark.Equal) = Compared w Op.Equal s
after_word m a w s (token.Mark mark.Less) = Compared w Op.Less s
after_word m a w s (token.Mark mark.AtMost) = Compared w Op.AtMost s
after_word m a w s t = after_atom m (a.plain w) s t

-- a formula was read if the atom is one, and else the form is bad
abbrev pub has_atom : {A : Type 0} → Option A → List (Frame A) → State A
has_atom None s = Bad
has_atom (Some f) s = Has f s

-- after a word with a mark that compares
abbrev pub after_compared : {A : Type 0} → Atoms A → List ℕ → Op → List (Frame A) → Token → State A
after_compared a w Op.Equal s (token.Quoted k) = has_atom (a.equal w k) s
after_compared a w op s (token.Word digits) = has_atom (a.compare w op digits) s
after_compared a w op s (token.Signed digits) = has_atom (a.compare w op digits) s
after_compared a w op s t = Bad

-- after one more token
abbrev pub step : {A L : Type 0} → Making A L → Atoms A → State A → Token → State A
step m a (Wants s) t = begun s t
step m a (WantsPart s) t = begun_part m s t
step m a (Named w s) t = after_word m a w s t
step m a (Compared w op s) t = after_compared a w op s t
step m a (Has f s) t = after m f s t
step m a Bad t = Bad

-- the formula, if nothing is open any more
abbrev pub alone : {A : Type 0} → A × List (Frame A) → Option A
alone (f, []) = Some f
alone (f, b ∷ s) = None

-- at the end of the tokens
abbrev pub ended : {A L : Type 0} → Making A L → Atoms A → State A → Option A
ended m a (Has f s) = alone (settled m 1 f s)
ended m a (Named w s) = option_and_then (λ f. alone (settled m 1 f s)) (a.plain w)
ended m a st = None

-- the formula that the tokens are, if they are one
abbrev pub formula_read : {A L : Type 0} → Making A L → Atoms A → List Token → Option A
formula_read m a ts = ended m a (fold (step m a) (Wants []) ts)

-- formulas are put together as they are
abbrev pub trees : Making Form Forms
trees = record {
  negate = words.Form.Not;
  join = words.Form.Joined;
  one = words.Form.One;
  end = words.Forms.End;
  more = words.Forms.More;
}

-- the formula that the tokens are, if they are one
unfoldable pub the_formula : Atoms Form → List Token → Option Form
the_formula a ts = formula_read trees a ts
