-- What is printed is cut into its tokens.
--     text_is_cut    a formula's text is cut into the formula's tokens
use Rattle.std.proofs.Common.{◌≡◌, ◌==◌, ◌||◌, ℕ, ℤ, pos, negsuc, suc, Bool, true, false, cond, List, [], ◌∷◌, ◌++◌, All, refl, append_assoc, append-nil, arith, decimal, flat_map}
use Rattle.std.proofs.lemmas.List.Elements.{All-head, All-tail}
use Rattle.olap_base.specs.Chains.{IsChain}
use Rattle.olap_base.specs.Graph.{Graph, HasEdge, IsCategory, IsCategoryName, IsHierarchy, IsLetterOrDigit}
use Rattle.olap_graph.specs.Lookups.{name_of_category}
use Rattle.olap_ast.specs.{Formula.{Formula, Terms}, Valid.{AreFormulasAt, IsFormulaAt}}
use Rattle.olap_numerals.specs.{Comparing.Op, Numerals.{IsSmall, canonical}}
use Rattle.olap_grammar.proofs.LongestLemmas.{cut_mark}
use Rattle.olap_grammar.specs.Cutting.{AreWordBytes, EndsWord, IsMarkIn, is_word_byte, joint_bytes, mark_bytes, Spells, nothing, quote, slash, other, IsCut, blank, word, quoted, signed}
use Rattle.olap_grammar.specs.{Grammar.comparing, Longest.EndsMark, Quoting.escaped_byte, declared.tokens.Joint.Joint}
use Rattle.olap_grammar.specs.declared.tokens.{Token.Token, Version.Version}
use Rattle.olap_schema_text.proofs.PrintNames.{letters, name_is}
use Rattle.olap_schema_text.proofs.PrintNumerals.{AreDigits, digits_are_word, digits_behind_dash, digits_in_decimal, first_digit}
use Rattle.olap_schema_text.proofs.PrintTokens.{joined_tokens, number_token, spelt, spelt_list, spelt_rest}
use Rattle.olap_schema_text.specs.Printing.{atom_word, compared_word, formula_text, joined_text, list_text, names_after, rest_text}
use Rattle.olap_ast.specs.Formula as Meaning
use Rattle.olap_grammar.specs.declared.tokens.Token.TheVariants as token
use Rattle.olap_grammar.specs.declared.tokens.Mark.TheVariants as mark
use Rattle.olap_grammar.specs.declared.tokens.Joint.TheVariants as joint
use Rattle.olap_grammar.specs.declared.tokens.Version.TheVariants as version

-- ---- words

-- these are categories
abbrev pub AreCategories : Graph → List ℕ → Type 0
AreCategories g [] = Unit {0}
AreCategories g (c ∷ cs) = IsCategory g c × AreCategories g cs

-- a word of word bytes
pub data IsWord : List ℕ → Type 0 where
  is_word : (b : ℕ) (w : List ℕ) → AreWordBytes (b ∷ w) → IsWord (b ∷ w)

-- letters and digits are bytes of words
letter_is_word : (b : ℕ) → IsLetterOrDigit b → is_word_byte b ≡ true
letter_is_word b h = grind arith

-- this many of them are
letters_are_word : (w : List ℕ) → All IsLetterOrDigit w → AreWordBytes w
letters_are_word [] h = tt
letters_are_word (b ∷ w) h =
    (letter_is_word b (All-head IsLetterOrDigit b w h), letters_are_word w (All-tail IsLetterOrDigit b w h))

-- and two lists of them
words_append : (v w : List ℕ) → AreWordBytes v → AreWordBytes w → AreWordBytes (v ++ w)
words_append [] w h k = k
words_append (b ∷ v) w h k = (h.0, words_append v w h.1 k)

-- a name with more bytes is a word
longer : (v w : List ℕ) → IsCategoryName v → AreWordBytes w → IsWord (v ++ w)
longer [] w n k = absurd n
longer (b ∷ v) w n k = is_word b (v ++ w) (words_append (b ∷ v) w (letters_are_word (b ∷ v) (letters (b ∷ v) n)) k)

-- and so is a name alone
pub name_is_word : (v : List ℕ) → IsCategoryName v → IsWord v
name_is_word v n = rw (append-nil v) at (longer v [] n tt)

-- a word in front of what ends it
pub cut_word : {v : Version} {w bs : List ℕ} {ts : List Token} → IsWord w → EndsWord bs → IsCut v bs ts
    → IsCut v (w ++ bs) (token.Word w ∷ ts)
cut_word (is_word b w h) n d = word b w h n d

module _ (g : Graph) (h : IsHierarchy g) where
  after_are_word : (m : ℕ) → is_word_byte m ≡ true → (cs : List ℕ) → AreCategories g cs
      → AreWordBytes (names_after g m cs)
  after_are_word m e [] k = tt
  after_are_word m e (c ∷ cs) k = (
    e,
    words_append (name_of_category g c) (names_after g m cs)
        (letters_are_word (name_of_category g c) (letters (name_of_category g c) (name_is g h c k.0)))
        (after_are_word m e cs k.1),
  )

  pub atom_is_word : (r m : ℕ) → is_word_byte m ≡ true → (cs : List ℕ) → IsCategory g r → AreCategories g cs
      → IsWord (atom_word g r m cs)
  atom_is_word r m e cs l k =
      longer (name_of_category g r) (names_after g m cs) (name_is g h r l) (after_are_word m e cs k)

  pub compared_is_word : (r d : ℕ) → IsCategory g r → IsCategory g d → IsWord (compared_word g r d)
  compared_is_word r d l k = go (d == r)
    where
      go : (b : Bool) → IsWord (cond b (name_of_category g r) (atom_word g r 46 (d ∷ [])))
      go true = name_is_word (name_of_category g r) (name_is g h r l)
      go false = atom_is_word r 46 refl (d ∷ []) l (k, tt)

  -- what follows the root of a chain of edges are categories
  pub steps_are : (r : ℕ) (cs : List ℕ) → IsChain (HasEdge g) (r ∷ cs) → AreCategories g cs
  steps_are r [] k = tt
  steps_are r (c ∷ []) k = ((h.categories r c k.0).1, tt)
  steps_are r (c ∷ d ∷ cs) k = ((h.categories r c k.0).1, steps_are c (d ∷ cs) k.1)

-- ---- strings

-- an escaped text spells the text
pub escaped_spells : (k : List ℕ) → Spells (flat_map escaped_byte k) k
escaped_spells [] = nothing
escaped_spells (b ∷ k) = go (b == 34) (b == 92) refl refl (escaped_spells k)
  where
    go : (p q : Bool) → b == 34 ≡ p → b == 92 ≡ q → Spells (flat_map escaped_byte k) k
        → Spells (cond (p || q) (92 ∷ b ∷ []) (b ∷ []) ++ flat_map escaped_byte k) (b ∷ k)
    go true q e f d = let same : b ≡ 34 = grind (arith) in rw same (quote d)
    go false true e f d = let same : b ≡ 92 = grind (arith) in rw same (slash d)
    go false false e f d = other e f d

-- `=` and a string
cut_quoted : (k bs : List ℕ) (ts : List Token) → IsCut version.Two bs ts
    → IsCut version.Two (32 ∷ 61 ∷ 32 ∷ 34 ∷ (flat_map escaped_byte k ++ 34 ∷ bs))
    (token.Mark mark.Equal ∷ token.Quoted k ∷ ts)
cut_quoted k bs ts d = blank (cut_mark mark.Equal tt tt (blank (quoted (escaped_spells k) d)))

-- ---- numbers

-- digits are a word
digits_word : (ds : List ℕ) → AreDigits ds → IsWord ds
digits_word [] h = let l = h.some in absurd (omega arith)
digits_word (b ∷ ds) h = is_word b ds (digits_are_word (b ∷ ds) h.digits)

-- a `-` with digits
cut_negative : (ds bs : List ℕ) (ts : List Token) → AreDigits ds → EndsWord bs → IsCut version.Two bs ts
    → IsCut version.Two (45 ∷ (ds ++ bs)) (token.Signed (45 ∷ ds) ∷ ts)
cut_negative [] bs ts h n d = let l = h.some in absurd (omega arith)
cut_negative (b ∷ ds) bs ts h n d =
    let f = first_digit b ds h in signed b ds refl f.0 (digits_are_word ds f.1) n d

-- a canonical numeral is cut into its token
cut_number : (z : ℤ) (bs : List ℕ) (ts : List Token) → IsSmall z → EndsWord bs → IsCut version.Two bs ts
    → IsCut version.Two (canonical z ++ bs) (number_token z ∷ ts)
cut_number (pos n) bs ts h e d = cut_word (digits_word (decimal n) (digits_in_decimal n h)) e d
cut_number (negsuc n) bs ts h e d = cut_negative (decimal (suc n)) bs ts (digits_behind_dash n h) e d

-- the second version has each comparison
compares_in_two : (op : Op) → IsMarkIn (comparing op) version.Two
compares_in_two Op.Equal = tt
compares_in_two op = refl

-- at a space no mark goes on
ends_at_space : (op : Op) (bs : List ℕ) → EndsMark (comparing op) (32 ∷ bs)
ends_at_space Op.Less bs = (refl, λ e. absurd (cc))
ends_at_space op bs = tt

-- a comparison and a number
cut_compared : (op : Op) (z : ℤ) (bs : List ℕ) (ts : List Token) → IsSmall z → EndsWord bs → IsCut version.Two bs ts
    → IsCut version.Two (32 ∷ (mark_bytes (comparing op) ++ 32 ∷ (canonical z ++ bs)))
    (token.Mark (comparing op) ∷ number_token z ∷ ts)
cut_compared op z bs ts h e d =
    blank (cut_mark (comparing op) (compares_in_two op) (ends_at_space op (canonical z ++ bs))
    (blank (cut_number z bs ts h e d)))

-- ---- formulas

-- a text that, in front of anything that ends a word, is cut into these tokens
abbrev pub Cuts : List ℕ → List Token → Type 0
Cuts text ts =
    (bs : List ℕ) (us : List Token) → EndsWord bs → IsCut version.Two bs us → IsCut version.Two (text ++ bs) (ts ++ us)

-- two texts joined by a connective
joined_cut : (g : Graph) (r : ℕ) (j : Joint) (f k : Formula) → Cuts (formula_text g r f) (spelt g r f)
    → Cuts (formula_text g r k) (spelt g r k)
    → Cuts (joined_text j (formula_text g r f) (formula_text g r k)) (joined_tokens j (spelt g r f) (spelt g r k))
joined_cut g r j f k c d bs us n e =
    let inner = c (32 ∷ (joint_bytes j ++ 32 ∷ (formula_text g r k ++ 41 ∷ bs)))
    (token.Mark (mark.Joint j) ∷ (spelt g r k ++ token.Mark mark.Close ∷ us)) refl
    (blank (cut_mark (mark.Joint j) tt tt
    (blank (d (41 ∷ bs) (token.Mark mark.Close ∷ us) refl (cut_mark mark.Close tt tt e))))) in
    simp append_assoc (cut_mark mark.Open tt tt inner)

-- what stands after a part ends a word
rest_ends : (g : Graph) (r : ℕ) (fs : Terms) (bs : List ℕ) → EndsWord bs → EndsWord (rest_text g r fs ++ bs)
rest_ends g r Meaning.Terms.End bs n = n
rest_ends g r (Meaning.Terms.More f fs) bs n = refl

module _ (g : Graph) (h : IsHierarchy g) (r : ℕ) (l : IsCategory g r) where
  mutual
    pub text_is_cut : (f : Formula) → IsFormulaAt g r f → Cuts (formula_text g r f) (spelt g r f)
    text_is_cut Meaning.Formula.Truth v bs us n e =
        word 116 (114 ∷ 117 ∷ 101 ∷ []) (refl, (refl, (refl, (refl, tt)))) n e
    text_is_cut Meaning.Formula.Falsity v bs us n e =
        word 102 (97 ∷ 108 ∷ 115 ∷ 101 ∷ []) (refl, (refl, (refl, (refl, (refl, tt))))) n e
    text_is_cut (Meaning.Formula.Path cs) v bs us n e =
        cut_word (atom_is_word g h r 95 refl cs l (steps_are g h r cs v.1)) n e
    text_is_cut (Meaning.Formula.Reach d) v bs us n e = cut_word (atom_is_word g h r 46 refl (d ∷ []) l (v, tt)) n e
    text_is_cut (Meaning.Formula.Via d c) v bs us n e =
        cut_word (atom_is_word g h r 46 refl (d ∷ c ∷ []) l (v.0, (v.1, tt))) n e
    text_is_cut (Meaning.Formula.Equals d k) v bs us n e =
        simp append_assoc (cut_word (compared_is_word g h r d l v.0) refl (cut_quoted k bs us e))
    text_is_cut (Meaning.Formula.Compare d op z) v bs us n e =
        simp append_assoc (cut_word (compared_is_word g h r d l v.0) refl (cut_compared op z bs us v.2 n e))
    text_is_cut (Meaning.Formula.Not f) v bs us n e = cut_mark mark.Not tt tt (text_is_cut f v bs us n e)
    text_is_cut (Meaning.Formula.And f k) v bs us n e =
        joined_cut g r joint.And f k (text_is_cut f v.0) (text_is_cut k v.1) bs us n e
    text_is_cut (Meaning.Formula.Or f k) v bs us n e =
        joined_cut g r joint.Or f k (text_is_cut f v.0) (text_is_cut k v.1) bs us n e
    text_is_cut (Meaning.Formula.Implies f k) v bs us n e =
        joined_cut g r joint.Implies f k (text_is_cut f v.0) (text_is_cut k v.1) bs us n e
    text_is_cut (Meaning.Formula.Iff f k) v bs us n e =
        joined_cut g r joint.Iff f k (text_is_cut f v.0) (text_is_cut k v.1) bs us n e
    text_is_cut (Meaning.Formula.Xor f k) v bs us n e =
        joined_cut g r joint.Xor f k (text_is_cut f v.0) (text_is_cut k v.1) bs us n e
    text_is_cut (Meaning.Formula.One fs) v bs us n e =
        simp append_assoc (word 111 (110 ∷ 101 ∷ []) (refl, (refl, (refl, tt))) refl
        (cut_mark mark.Open tt tt
        (list_is_cut fs v (41 ∷ bs) (token.Mark mark.Close ∷ us) refl (cut_mark mark.Close tt tt e))))

    list_is_cut : (fs : Terms) → AreFormulasAt g r fs → Cuts (list_text g r fs) (spelt_list g r fs)
    list_is_cut Meaning.Terms.End v bs us n e = e
    list_is_cut (Meaning.Terms.More f fs) v bs us n e =
        simp append_assoc (text_is_cut f v.0 (rest_text g r fs ++ bs) (spelt_rest g r fs ++ us)
        (rest_ends g r fs bs n) (rest_is_cut fs v.1 bs us n e))

    rest_is_cut : (fs : Terms) → AreFormulasAt g r fs → Cuts (rest_text g r fs) (spelt_rest g r fs)
    rest_is_cut Meaning.Terms.End v bs us n e = e
    rest_is_cut (Meaning.Terms.More f fs) v bs us n e =
        simp append_assoc (cut_mark mark.Comma tt tt
        (blank (text_is_cut f v.0 (rest_text g r fs ++ bs) (spelt_rest g r fs ++ us) (rest_ends g r fs bs n)
        (rest_is_cut fs v.1 bs us n e))))
