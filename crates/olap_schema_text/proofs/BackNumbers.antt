-- The numbers of a printed formula.
use Rattle.std.proofs.Common.{◌≡◌, ◌==◌, ℕ, ℤ, pos, negsuc, Bool, true, false, cond, List, [], ◌∷◌, codes, refl, append-nil}
use Rattle.std.specs.List.{list_any}
use Rattle.olap_base.specs.Graph.{Graph, IsCategory, IsHierarchy}
use Rattle.olap_graph.specs.Lookups.{name_of_category}
use Rattle.olap_ast.specs.{Formula.Formula, Valid.IsFormulaAt}
use Rattle.olap_numerals.{proofs.NumeralLemmas.numbers_read_back, specs.Numerals.{IsSmall, canonical}}
use Rattle.olap_grammar.specs.{Grammar.comparing, Words.is_number_token, declared.tokens.Mark.Mark}
use Rattle.olap_grammar.specs.declared.tokens.Token.{Token}
use Rattle.olap_schema_text.proofs.{BackTests.{IsLeaf, none-cons, none_passes}, PrintNames.name_is}
use Rattle.olap_schema_text.proofs.{PrintNumerals.{no_number, numeral_is_number}, PrintTokens.{number_token, spelt}}
use Rattle.olap_schema_text.specs.Printing.{atom_word, compared_word, names_after}
use Rattle.olap_schema_text.specs.Tokens.{is_bad_number, is_no_numeral}
use Rattle.olap_ast.specs.Formula as Meaning
use Rattle.olap_grammar.specs.declared.tokens.Token.TheVariants as token
use Rattle.olap_grammar.specs.declared.tokens.Mark.TheVariants as mark

-- `true` is no number
true_no_number : is_number_token (codes "true") ≡ false
unfolding is_number_token
true_no_number = refl

-- nor is `false`
false_no_number : is_number_token (codes "false") ≡ false
unfolding is_number_token
false_no_number = refl

-- nor `one`
one_no_number : is_number_token (codes "one") ≡ false
unfolding is_number_token
one_no_number = refl

module _ (g : Graph) (h : IsHierarchy g) where
  -- the word of an atom is no number token
  pub atom_is_no_number : (r m : ℕ) (cs : List ℕ) → IsCategory g r → is_number_token (atom_word g r m cs) ≡ false
  atom_is_no_number r m cs l = no_number (name_of_category g r) (names_after g m cs) (name_is g h r l)

  pub name_is_no_number : (r : ℕ) → IsCategory g r → is_number_token (name_of_category g r) ≡ false
  name_is_no_number r l =
      rw (append-nil (name_of_category g r)) at (no_number (name_of_category g r) [] (name_is g h r l))

  compared_is_no_number : (r d : ℕ) → IsCategory g r → is_number_token (compared_word g r d) ≡ false
  compared_is_no_number r d l = go (d == r)
    where
      go : (b : Bool) → is_number_token (cond b (name_of_category g r) (atom_word g r 46 (d ∷ []))) ≡ false
      go true = name_is_no_number r l
      go false = atom_is_no_number r 46 (d ∷ []) l

-- a word that is no number is no bad one
good_word : (w : List ℕ) → is_number_token w ≡ false → is_bad_number (token.Word w) ≡ false
unfolding is_bad_number
good_word w d = rw d refl

-- nor is a mark
good_mark : (m : Mark) → is_bad_number (token.Mark m) ≡ false
unfolding is_bad_number
good_mark m = refl

-- nor a string
good_text : (k : List ℕ) → is_bad_number (token.Quoted k) ≡ false
unfolding is_bad_number
good_text k = refl

-- a canonical numeral is a numeral
good_numeral : (z : ℤ) → IsSmall z → is_no_numeral (canonical z) ≡ false
good_numeral z small = rw (numeral_is_number z small, numbers_read_back z small) refl

-- a printed number is within the bounds
good_number : (z : ℤ) → IsSmall z → is_bad_number (number_token z) ≡ false
unfolding is_bad_number
good_number (pos n) small = good_numeral (pos n) small
good_number (negsuc n) small = good_numeral (negsuc n) small

-- a word alone
one_good : (w : List ℕ) → is_number_token w ≡ false → list_any is_bad_number (token.Word w ∷ []) ≡ false
one_good w d = none-cons is_bad_number (token.Word w) [] (good_word w d) refl

-- a word, a mark and what it is compared with
compared_good : (w : List ℕ) (m : Mark) (t : Token) → is_number_token w ≡ false → is_bad_number t ≡ false
    → list_any is_bad_number (token.Word w ∷ token.Mark m ∷ t ∷ []) ≡ false
compared_good w m t d e =
    none-cons is_bad_number (token.Word w) (token.Mark m ∷ t ∷ []) (good_word w d)
    (none-cons is_bad_number (token.Mark m) (t ∷ []) (good_mark m) (none-cons is_bad_number t [] e refl))

module _ (g : Graph) (h : IsHierarchy g) (r : ℕ) (l : IsCategory g r) where
  leaf_good : (f : Formula) → IsFormulaAt g r f → IsLeaf f → list_any is_bad_number (spelt g r f) ≡ false
  leaf_good Meaning.Formula.Truth v k = one_good (codes "true") true_no_number
  leaf_good Meaning.Formula.Falsity v k = one_good (codes "false") false_no_number
  leaf_good (Meaning.Formula.Path cs) v k = one_good (atom_word g r 95 cs) (atom_is_no_number g h r 95 cs l)
  leaf_good (Meaning.Formula.Reach d) v k =
      one_good (atom_word g r 46 (d ∷ [])) (atom_is_no_number g h r 46 (d ∷ []) l)
  leaf_good (Meaning.Formula.Via d e) v k =
      one_good (atom_word g r 46 (d ∷ e ∷ [])) (atom_is_no_number g h r 46 (d ∷ e ∷ []) l)
  leaf_good (Meaning.Formula.Equals d text) v k =
      compared_good (compared_word g r d) mark.Equal (token.Quoted text) (compared_is_no_number g h r d l)
      (good_text text)
  leaf_good (Meaning.Formula.Compare d op n) v k =
      compared_good (compared_word g r d) (comparing op) (number_token n) (compared_is_no_number g h r d l)
      (good_number n v.2)
  leaf_good f v k = absurd k

  -- each number token is a numeral
  pub none_is_bad : (f : Formula) → IsFormulaAt g r f → list_any is_bad_number (spelt g r f) ≡ false
  none_is_bad f v =
      none_passes g r is_bad_number
      (record { marks = good_mark; one = good_word (codes "one") one_no_number; leaves = leaf_good }) f v
