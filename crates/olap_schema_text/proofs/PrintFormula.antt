-- The tokens of a printed formula are a formula with that tree.
use Rattle.std.proofs.Common.{◌≡◌, ℕ, List, [], ◌∷◌, ◌++◌, Option, Some, ap, codes, append_assoc, append-nil, lit≤, refl}
use Rattle.std.specs.Option.{option_map}
use Rattle.olap_base.specs.Graph.{Graph, IsCategory, IsHierarchy}
use Rattle.olap_ast.specs.{Formula.{Formula, Terms}, Valid.{AreFormulasAt, IsFormulaAt}}
use Rattle.olap_grammar.{proofs.Levels.row, proofs.Sound.tighter, specs.Forms.{Atom, Form, Forms}}
use Rattle.olap_grammar.specs.Grammar.{Atoms, level, left_level, right_level, IsFormula, looser, joined, negated, bracketed, listed, plain, equal, compared, none, some, IsItems, last, more}
use Rattle.olap_grammar.specs.{Words.{atoms_of, plain_of}, declared.tokens.Joint.Joint, declared.tokens.Token.Token}
use Rattle.olap_schema_text.proofs.BackWords.{compares_means, equals_means, path_means, reach_means, via_means}
use Rattle.olap_schema_text.proofs.{PrintCut.steps_are, PrintNumerals.token_digits}
use Rattle.olap_schema_text.proofs.PrintTokens.{joined_tokens, number_token, spelt, spelt_rest}
use Rattle.olap_schema_text.proofs.Written.{all_written, written}
use Rattle.olap_ast.specs.Formula as Meaning
use Rattle.olap_grammar.specs.Forms as words
use Rattle.olap_grammar.specs.declared.tokens.Token.TheVariants as token
use Rattle.olap_grammar.specs.declared.tokens.Mark.TheVariants as mark
use Rattle.olap_grammar.specs.declared.tokens.Joint.TheVariants as joint
use Rattle.olap_grammar.specs.declared.tokens.Version.TheVariants as version

-- two formulas in brackets, joined
spelt_join : {a : Atoms Form} (j : Joint) {l r : List Token} {f g : Form} → IsFormula a 6 l f → IsFormula a 6 r g
    → IsFormula a 6 (joined_tokens j l r) (words.Form.Joined j f g)
spelt_join j {l = l} {r = r} d e =
    let both = joined j (tighter (left_level j) 6 (row j).left_most d)
    (tighter (right_level j) 6 (row j).right_most e) in
    let e : (l ++ token.Mark (mark.Joint j) ∷ r) ++ token.Mark mark.Close ∷ [] ≡ l ++ token.Mark (mark.Joint j) ∷
    (r ++ token.Mark mark.Close ∷ []) =
    simp append_assoc in
    looser (rw e at (bracketed (tighter 1 (level j) (row j).some both)))

-- what follows a part of a list
data IsRest (a : Atoms Form) : List Token → Forms → Type 0 where
  over : IsRest a [] words.Forms.End
  goes : {us : List Token} {fs : Forms} → IsItems a us fs → IsRest a (token.Mark mark.Comma ∷ us) fs

-- a part and those after it
spelt_items : {a : Atoms Form} {us vs : List Token} {f : Form} {fs : Forms} → IsFormula a 6 us f → IsRest a vs fs
    → IsItems a (us ++ vs) (words.Forms.More f fs)
spelt_items d over = rw append-nil (last (tighter 1 6 (lit≤ tt) d))
spelt_items d (goes k) = more (tighter 1 6 (lit≤ tt) d) k

-- `true` is the formula that is true
true_means : plain_of (codes "true") ≡ Some words.Atom.Truth
unfolding plain_of
true_means = refl

-- and `false` the one that is false
false_means : plain_of (codes "false") ≡ Some words.Atom.Falsity
unfolding plain_of
false_means = refl

-- what a word says is an atom of a formula
of_atom : {o : Option Atom} {a : Atom} → o ≡ Some a → option_map words.Form.Of o ≡ Some (words.Form.Of a)
of_atom e = ap (option_map words.Form.Of) e

module _ (g : Graph) (h : IsHierarchy g) (r : ℕ) (l : IsCategory g r) where
  mutual
    pub spelt_is_formula : (f : Formula) → IsFormulaAt g r f → IsFormula (atoms_of version.Two) 6 (spelt g r f)
        (written g r f)
    spelt_is_formula Meaning.Formula.Truth v = looser (plain (of_atom true_means))
    spelt_is_formula Meaning.Formula.Falsity v = looser (plain (of_atom false_means))
    spelt_is_formula (Meaning.Formula.Path cs) v = looser
        (plain (of_atom (path_means g h r cs l (steps_are g h r cs v.1) v.0)))
    spelt_is_formula (Meaning.Formula.Reach d) v = looser (plain (of_atom (reach_means g h r d l v)))
    spelt_is_formula (Meaning.Formula.Via d e) v = looser (plain (of_atom (via_means g h r d e l v.0 v.1)))
    spelt_is_formula (Meaning.Formula.Equals d k) v = looser (equal (of_atom (equals_means g h r d k l v.0)))
    spelt_is_formula (Meaning.Formula.Compare d op n) v =
        looser (compared op (number_token n) (token_digits n) (of_atom (compares_means g h r d op n l v.0 v.2)))
    spelt_is_formula (Meaning.Formula.Not f) v = negated (spelt_is_formula f v)
    spelt_is_formula (Meaning.Formula.And f k) v =
        spelt_join joint.And (spelt_is_formula f v.0) (spelt_is_formula k v.1)
    spelt_is_formula (Meaning.Formula.Or f k) v = spelt_join joint.Or (spelt_is_formula f v.0) (spelt_is_formula k v.1)
    spelt_is_formula (Meaning.Formula.Implies f k) v =
        spelt_join joint.Implies (spelt_is_formula f v.0) (spelt_is_formula k v.1)
    spelt_is_formula (Meaning.Formula.Iff f k) v =
        spelt_join joint.Iff (spelt_is_formula f v.0) (spelt_is_formula k v.1)
    spelt_is_formula (Meaning.Formula.Xor f k) v =
        spelt_join joint.Xor (spelt_is_formula f v.0) (spelt_is_formula k v.1)
    spelt_is_formula (Meaning.Formula.One Meaning.Terms.End) v = looser (listed none)
    spelt_is_formula (Meaning.Formula.One (Meaning.Terms.More f fs)) v =
        looser (listed (some (spelt_items (spelt_is_formula f v.0) (spelt_rests fs v.1))))

    -- what follows the first part of a list: nothing, or a comma and the others
    spelt_rests : (fs : Terms) → AreFormulasAt g r fs
        → IsRest (atoms_of version.Two) (spelt_rest g r fs) (all_written g r fs)
    spelt_rests Meaning.Terms.End v = over
    spelt_rests (Meaning.Terms.More f fs) v = goes (spelt_items (spelt_is_formula f v.0) (spelt_rests fs v.1))
