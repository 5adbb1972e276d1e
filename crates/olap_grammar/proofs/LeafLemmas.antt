-- Atoms have depth 1, and what the reader built says what it read.
use Rattle.std.proofs.Common.{◌≡◌, ◌≤◌, ◌<◌, ℕ, suc, Bool, true, false, cond, refl, sym, ap, ◌∙◌, Option, Some, None, Ok, Err, nat_le, arith}
use Rattle.std.specs.Option.{option_map}
use Rattle.olap_base.specs.Limits.{most_depth}
use Rattle.olap_grammar.specs.{Answering.formula_answer, Clip.{AreLeaves, clip}, Forms.{Atom, Form, depth_of}}
use Rattle.olap_grammar.specs.{Reader.{Built, ReadsNone}, Words.{atoms_of, compare_of, equal_of, plain_of}}
use Rattle.olap_grammar.specs.declared.{refusals.NoFormula.NoFormula, tokens.Version.Version}
use Rattle.olap_base.specs.declared.refusals.Refusal.TheVariants as refusal
use Rattle.olap_grammar.specs.Forms as words
use Rattle.olap_grammar.specs.declared.refusals.FormFault.TheVariants as fault

-- what a word says has depth 1
one_level : (o : Option Atom) (f : Form) → option_map words.Form.Of o ≡ Some f → depth_of f ≡ 1
one_level None f e = absurd cc
one_level (Some a) f e = let s : words.Form.Of a ≡ f = cc in rw (← s) refl

-- so all atoms are leaves
pub atoms_are_leaves : (v : Version) → AreLeaves (atoms_of v)
atoms_are_leaves v = record {
  plain = λ w f e. one_level (plain_of w) f e;
  equal = λ w k f e. one_level (equal_of w k) f e;
  compare = λ w op digits f e. one_level (compare_of v w op digits) f e;
}

-- ---- what was built

-- what is built of a formula, by whether it is no deeper than it may be
abbrev chosen : Bool → Form → Built
chosen b g = cond b (depth_of g, g) (suc most_depth, words.Form.Of words.Atom.Truth)

-- and this is its depth and its tree
built : (g : Form) (b : Bool) (d : ℕ) (f : Form) → Some (chosen b g) ≡ Some (d, f) → chosen b g ≡ (d, f)
built g b d f p = cc

-- a greater depth says that the formula is too deep
pub too_deep : (o : Option Form) (d : ℕ) (f : Form) → option_map clip o ≡ Some (d, f) → most_depth < d
    → formula_answer o ≡ Err fault.TooDeep
too_deep None d f e h = absurd cc
too_deep (Some g) d f e h = go (nat_le (depth_of g) most_depth) refl e
  where
    go : (b : Bool) → nat_le (depth_of g) most_depth ≡ b → Some (chosen b g) ≡ Some (d, f)
        → formula_answer (Some g) ≡ Err fault.TooDeep
    go true q p =
        let s : depth_of g ≡ d = ap (λ (r : Built). r.0) (built g true d f p) in
        let l : depth_of g ≤ most_depth = grind (arith, q) in
        absurd (omega arith)
    go false q p = rw q refl

-- another that it is what was built
pub not_deep : (o : Option Form) (d : ℕ) (f : Form) → option_map clip o ≡ Some (d, f) → d ≤ most_depth
    → formula_answer o ≡ Ok f
not_deep None d f e h = absurd cc
not_deep (Some g) d f e h = go (nat_le (depth_of g) most_depth) refl e
  where
    go : (b : Bool) → nat_le (depth_of g) most_depth ≡ b → Some (chosen b g) ≡ Some (d, f)
        → formula_answer (Some g) ≡ Ok f
    go true q p = let s : g ≡ f = ap (λ (r : Built). r.1) (built g true d f p) in rw q (ap Ok s)
    go false q p = let s : suc most_depth ≡ d = ap (λ (r : Built). r.0) (built g false d f p) in absurd (omega arith)

-- and nothing that there is none
pub no_formula : (o : Option Form) → option_map clip o ≡ None → formula_answer o ≡ Err fault.BadForm
no_formula None e = refl
no_formula (Some f) e = absurd cc

-- so a refusal is that of the tokens
pub refused : (o : Option Form) (read : Option Built) (r : NoFormula) → read ≡ option_map clip o
    → ReadsNone (refusal.Kind r) read → formula_answer o ≡ Err fault.BadForm
refused o read r q h = no_formula o (sym q ∙ h)
