-- A formula that is built only as far as it is no deeper than a formula may be, with its depth.
--     kept         a tree that is built, if it is no deeper than a formula may be
--     clip         a formula as far as it is built
--     clipped      how the reader puts formulas together
--     leaves       atoms, as the reader has them
--     AreLeaves    each atom has depth 1
use Rattle.std.specs.Prelude.{◌≡◌, ◌+◌, ℕ, suc, List, Some, cond, nat_le, max}
use Rattle.std.specs.Option.{option_map}
use Rattle.olap_numerals.specs.Comparing.{Op}
use Rattle.olap_grammar.specs.Forms as words
use Rattle.olap_grammar.specs.Forms.{Form, Forms}
use Rattle.olap_grammar.specs.Forms.{depth_of, depth_of_all}
use Rattle.olap_base.specs.Limits.{most_depth}
use Rattle.olap_grammar.specs.Grammar.{Atoms}
use Rattle.olap_grammar.specs.Machine.{Making}

-- a depth up to the most there may be and the tree, or one more and no tree to speak of
abbrev pub kept : ℕ → Form → ℕ × Form
kept d f = cond (nat_le d most_depth) (d, f) (suc most_depth, (words.Form.Of words.Atom.Truth))

-- the same of the parts of a list
abbrev pub kept_terms : ℕ → Forms → ℕ × Forms
kept_terms d fs = cond (nat_le d most_depth) (d, fs) (suc most_depth, words.Forms.End)

-- a formula as far as it is built, with its depth
abbrev pub clip : Form → ℕ × Form
clip f = kept (depth_of f) f

-- the same of the parts of a list
abbrev pub clip_terms : Forms → ℕ × Forms
clip_terms fs = kept_terms (depth_of_all fs) fs

-- formulas are put together as far as they are no deeper than one may be
abbrev pub clipped : Making (ℕ × Form) (ℕ × Forms)
clipped = record {
  negate = λ p. kept (1 + p.0) (words.Form.Not p.1);
  join = λ j p q. kept (1 + max p.0 q.0) (words.Form.Joined j p.1 q.1);
  one = λ l. kept (1 + l.0) (words.Form.One l.1);
  end = (0, words.Forms.End);
  more = λ p l. kept_terms (max p.0 l.0) (words.Forms.More p.1 l.1);
}

-- the atoms, each of depth 1
abbrev pub leaves : Atoms Form → Atoms (ℕ × Form)
leaves a = record {
  plain = λ w. option_map (λ f. (1, f)) (a.plain w);
  equal = λ w k. option_map (λ f. (1, f)) (a.equal w k);
  compare = λ w op digits. option_map (λ f. (1, f)) (a.compare w op digits);
}

-- each atom has depth 1
pub record AreLeaves (a : Atoms Form) : Type 0 where
  pub plain : (w : List ℕ) (f : Form) → a.plain w ≡ Some f → depth_of f ≡ 1
  pub equal : (w k : List ℕ) (f : Form) → a.equal w k ≡ Some f → depth_of f ≡ 1
  pub compare : (w : List ℕ) (op : Op) (digits : List ℕ) (f : Form) → a.compare w op digits ≡ Some f → depth_of f ≡ 1
