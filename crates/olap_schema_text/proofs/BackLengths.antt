-- No name and no text of a printed formula is too long.
use Rattle.std.proofs.Common.{◌≡◌, ◌≢◌, ◌==◌, ◌&&◌, ◌≤◌, not, ℕ, ℤ, pos, negsuc, Bool, true, false, cond, List, [], ◌∷◌, length, map, refl, arith, codes, nat_lt}
use Rattle.std.{proofs.lemmas.Bool.le-ltb, specs.List.list_any}
use Rattle.olap_base.specs.{Graph.{Graph, IsCategory, IsHierarchy}, Limits.most_text_bytes}
use Rattle.olap_graph.specs.Lookups.{name_of_category}
use Rattle.olap_ast.specs.{Formula.Formula, Valid.IsFormulaAt}
use Rattle.olap_numerals.specs.Numerals.{IsSmall}
use Rattle.olap_grammar.specs.{Grammar.comparing, Words.{is_number_token, pieces_of}, declared.tokens.Mark.Mark}
use Rattle.olap_grammar.specs.declared.tokens.Token.{Token}
use Rattle.olap_schema_text.proofs.BackTests.{IsLeaf, none-cons, none_passes}
use Rattle.olap_schema_text.proofs.BackWords.{name_whole, no_46, no_95, path_pieces, reach_pieces, reach_whole}
use Rattle.olap_schema_text.proofs.{PrintCut.{AreCategories, steps_are}, PrintNumerals.numeral_is_number}
use Rattle.olap_schema_text.{proofs.PrintTokens.{number_token, spelt}, specs.Printing.{atom_word, compared_word}}
use Rattle.olap_schema_text.specs.Tokens.{is_long, is_long_name, names_in}
use Rattle.olap_ast.specs.Formula as Meaning
use Rattle.olap_grammar.specs.declared.tokens.Token.TheVariants as token
use Rattle.olap_grammar.specs.declared.tokens.Mark.TheVariants as mark

-- no name has too many bytes
abbrev pub AreShort : Graph → Type 0
AreShort g = (c : ℕ) → IsCategory g c → length (name_of_category g c) ≤ most_text_bytes

-- two tests of which the second fails
no_more : (b : Bool) → b && false ≡ false
no_more true = refl
no_more false = refl

-- a string within the limit
short_quoted : (k : List ℕ) → length k ≤ most_text_bytes → is_long (token.Quoted k) ≡ false
unfolding is_long
short_quoted k l = let e : nat_lt most_text_bytes (length k) ≡ false = grind (arith) in e

-- a word with short names
short_word : (w : List ℕ) → list_any is_long_name (names_in w) ≡ false → is_long (token.Word w) ≡ false
unfolding is_long
short_word w d = rw d (no_more (not (is_number_token w)))

-- a mark
short_mark : (m : Mark) → is_long (token.Mark m) ≡ false
unfolding is_long
short_mark m = refl

-- a number within the bounds
short_number : (z : ℤ) → IsSmall z → is_long (number_token z) ≡ false
unfolding is_long
short_number (pos n) small = rw (numeral_is_number (pos n) small) refl
short_number (negsuc n) small = refl

-- a word alone
one_short : (w : List ℕ) → list_any is_long_name (names_in w) ≡ false → list_any is_long (token.Word w ∷ []) ≡ false
one_short w d = none-cons is_long (token.Word w) [] (short_word w d) refl

-- a word, a mark and what it is compared with
compared_short : (w : List ℕ) (m : Mark) (t : Token) → list_any is_long_name (names_in w) ≡ false
    → is_long t ≡ false → list_any is_long (token.Word w ∷ token.Mark m ∷ t ∷ []) ≡ false
compared_short w m t d e =
    none-cons is_long (token.Word w) (token.Mark m ∷ t ∷ []) (short_word w d)
    (none-cons is_long (token.Mark m) (t ∷ []) (short_mark m) (none-cons is_long t [] e refl))

-- `true` is short
true_short : list_any is_long_name (names_in (codes "true")) ≡ false
unfolding pieces_of
true_short = refl

-- and `false`
false_short : list_any is_long_name (names_in (codes "false")) ≡ false
unfolding pieces_of
false_short = refl

-- and `one`
name_one_short : list_any is_long_name (names_in (codes "one")) ≡ false
unfolding pieces_of
name_one_short = refl

-- ---- names

module _ (g : Graph) (h : IsHierarchy g) (short : AreShort g) where
  name_short : (c : ℕ) → IsCategory g c → is_long_name (name_of_category g c) ≡ false
  name_short c l = let b = short c l in le-ltb most_text_bytes (length (name_of_category g c)) b

  names_short : (cs : List ℕ) → AreCategories g cs → list_any is_long_name (map (name_of_category g) cs) ≡ false
  names_short [] v = refl
  names_short (c ∷ cs) v = rw (name_short c v.0) (names_short cs v.1)

  path_short : (r : ℕ) (cs : List ℕ) → IsCategory g r → AreCategories g cs → cs ≢ []
      → list_any is_long_name (names_in (atom_word g r 95 cs)) ≡ false
  path_short r [] l v n = absurd (n refl)
  path_short r (c ∷ cs) l v n = go (atom_word g r 95 (c ∷ cs)) (path_pieces g h r (c ∷ cs) l v)
    where
      go : (w : List ℕ) → pieces_of 95 w ≡ map (name_of_category g) (r ∷ c ∷ cs)
          → list_any is_long_name (names_in w) ≡ false
      go w p =
          let two : nat_lt 1 (length (map (name_of_category g) (r ∷ c ∷ cs))) ≡ true = grind (arith) in
          rw (p, two) (names_short (r ∷ c ∷ cs) (l, v))

  -- a word with `.`, or without a mark
  plain_short : (r : ℕ) (cs : List ℕ) (w : List ℕ) → IsCategory g r → AreCategories g cs
      → pieces_of 46 w ≡ map (name_of_category g) (r ∷ cs) → pieces_of 95 w ≡ w ∷ []
      → list_any is_long_name (names_in w) ≡ false
  plain_short r cs w l v p q = rw (q, p) (names_short (r ∷ cs) (l, v))

  reach_short : (r : ℕ) (cs : List ℕ) → IsCategory g r → AreCategories g cs
      → list_any is_long_name (names_in (atom_word g r 46 cs)) ≡ false
  reach_short r cs l v =
      plain_short r cs (atom_word g r 46 cs) l v (reach_pieces g h r cs l v) (reach_whole g h r cs l v)

  compares_short : (r d : ℕ) → IsCategory g r → IsCategory g d
      → list_any is_long_name (names_in (compared_word g r d)) ≡ false
  compares_short r d l m = go (d == r)
    where
      go : (b : Bool)
          → list_any is_long_name (names_in (cond b (name_of_category g r) (atom_word g r 46 (d ∷ [])))) ≡ false
      go true =
          plain_short r [] (name_of_category g r) l tt (name_whole g h 46 r (no_46 g h r l))
          (name_whole g h 95 r (no_95 g h r l))
      go false = reach_short r (d ∷ []) l (m, tt)

module _ (g : Graph) (h : IsHierarchy g) (short : AreShort g) (r : ℕ) (l : IsCategory g r) where
  leaf_short : (f : Formula) → IsFormulaAt g r f → IsLeaf f → list_any is_long (spelt g r f) ≡ false
  leaf_short Meaning.Formula.Truth v k = one_short (codes "true") true_short
  leaf_short Meaning.Formula.Falsity v k = one_short (codes "false") false_short
  leaf_short (Meaning.Formula.Path cs) v k =
      one_short (atom_word g r 95 cs) (path_short g h short r cs l (steps_are g h r cs v.1) v.0)
  leaf_short (Meaning.Formula.Reach d) v k =
      one_short (atom_word g r 46 (d ∷ [])) (reach_short g h short r (d ∷ []) l (v, tt))
  leaf_short (Meaning.Formula.Via d e) v k =
      one_short (atom_word g r 46 (d ∷ e ∷ [])) (reach_short g h short r (d ∷ e ∷ []) l (v.0, (v.1, tt)))
  leaf_short (Meaning.Formula.Equals d text) v k =
      compared_short (compared_word g r d) mark.Equal (token.Quoted text) (compares_short g h short r d l v.0)
      (short_quoted text v.2)
  leaf_short (Meaning.Formula.Compare d op n) v k =
      compared_short (compared_word g r d) (comparing op) (number_token n) (compares_short g h short r d l v.0)
      (short_number n v.2)
  leaf_short f v k = absurd k

  -- no name and no text is too long
  pub none_is_long : (f : Formula) → IsFormulaAt g r f → list_any is_long (spelt g r f) ≡ false
  none_is_long f v =
      none_passes g r is_long
      (record { marks = short_mark; one = short_word (codes "one") name_one_short; leaves = leaf_short }) f v
