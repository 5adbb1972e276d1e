-- Formulas as they are written: over words, before any name is looked up.
--     Atom        what a word says, by itself or with a constant after it
--     Form        an atom, or a connective of formulas
--     depth_of    its levels
use Rattle.std.specs.Prelude.{ℕ, ◌+◌, max, List}
use Rattle.olap_numerals.specs.Comparing.{Op}
use Rattle.olap_grammar.specs.declared.tokens.Joint.{Joint}

-- the names of categories, the root's first, and the text or the digits that one of them is compared with
pub data Atom : Type 0 where
  Truth : Atom
  Falsity : Atom
  Path : (root : List ℕ) (categories : List (List ℕ)) → Atom
  Reach : (root category : List ℕ) → Atom
  Via : (root middle category : List ℕ) → Atom
  Equals : (root category text : List ℕ) → Atom
  Compare : (root category : List ℕ) (op : Op) (digits : List ℕ) → Atom

mutual
  -- an atom, or a connective of formulas
  pub data Form : Type 0 where
    Of : Atom → Form
    Not : Form → Form
    Joined : Joint → Form → Form → Form
    One : Forms → Form

  -- the parts of `one(..)`, in order
  pub data Forms : Type 0 where
    End : Forms
    More : Form → Forms → Forms

abbrev mutual
  -- the levels of the formula
  pub depth_of : Form → ℕ
  depth_of (Of a) = 1
  depth_of (Not f) = 1 + depth_of f
  depth_of (Joined j f g) = 1 + max (depth_of f) (depth_of g)
  depth_of (One fs) = 1 + depth_of_all fs

  -- the levels of the deepest part of `one(..)`
  pub depth_of_all : Forms → ℕ
  depth_of_all End = 0
  depth_of_all (More f fs) = max (depth_of f) (depth_of_all fs)
