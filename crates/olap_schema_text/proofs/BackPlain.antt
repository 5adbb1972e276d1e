-- Printed formulas and lines are plain: UTF-8 without control characters.
use Rattle.std.proofs.Common.{◌≡◌, ◌==◌, ◌&&◌, ℕ, ℤ, pos, negsuc, suc, decimal, Bool, true, false, cond, List, [], ◌∷◌, ◌++◌, All, refl, arith, codes, nat_lt, nat_le, lit<, flat_map}
use Rattle.std.proofs.lemmas.Bool.{and_parts, leb-true, ltb-true}
use Rattle.std.proofs.lemmas.List.Elements.{All-head, All-tail, Contains-append_left, Contains-append_right}
use Rattle.std.specs.{Char.is_ascii_digit, List.list_all, Str.all_ascii_digits}
use Rattle.olap_base.specs.Graph.{Graph, IsCategory, IsCategoryName, IsHierarchy, IsLetterOrDigit}
use Rattle.olap_graph.specs.Lookups.{name_of_category}
use Rattle.olap_ast.specs.{Atoms.{equalities, equalities_of_terms, Equality}, Formula.{Formula, Terms}}
use Rattle.olap_ast.specs.Valid.{AreFormulasAt, IsFormulaAt}
use Rattle.olap_numerals.specs.{Comparing.Op, Numerals.{IsSmall, canonical}}
use Rattle.olap_grammar.specs.{Cutting.{joint_bytes, mark_bytes}, Grammar.comparing, Quoting.{escaped_byte, quoted}}
use Rattle.olap_grammar.specs.declared.tokens.Joint.{Joint}
use Rattle.olap_schema_text.proofs.BackBytes.{IsPlain, escaped_plain, from_not_bad, plain-append, plain-cons, plain-nil}
use Rattle.olap_schema_text.proofs.{PrintCut.{AreCategories, steps_are}, PrintNames.{letters, name_is}}
use Rattle.olap_schema_text.proofs.PrintNumerals.{digits_behind_dash, digits_in_decimal}
use Rattle.olap_schema_text.specs.Printing.{atom_word, compared_word, formula_text, joined_text, list_text, names_after, rest_text}
use Rattle.olap_schema.specs.Readable.{AreTexts}
use Rattle.olap_ast.specs.Formula as Meaning
use Rattle.olap_grammar.specs.declared.tokens.Joint.TheVariants as joint

-- a printable ASCII character
abbrev pub is_printable : ℕ → Bool
is_printable b = nat_lt b 127 && nat_le 32 b

-- a printable byte in front
byte : (b : ℕ) (bs : List ℕ) → is_printable b ≡ true → IsPlain bs → IsPlain (b ∷ bs)
byte b bs e p =
    let t = and_parts (nat_lt b 127) (nat_le 32 b) e in
    plain-cons b bs (ltb-true b 127 t.0) (leb-true 32 b t.1) p

-- printable ASCII is plain
pub ascii_plain : (bs : List ℕ) → list_all is_printable bs ≡ true → IsPlain bs
ascii_plain [] e = plain-nil
ascii_plain (b ∷ bs) e =
    let t = and_parts (is_printable b) (list_all is_printable bs) e in byte b bs t.0 (ascii_plain bs t.1)

-- letters and digits are plain
letters_plain : (w : List ℕ) → All IsLetterOrDigit w → IsPlain w
letters_plain [] a = plain-nil
letters_plain (b ∷ w) a =
    let l = All-head IsLetterOrDigit b w a in
    plain-cons b w (grind arith) (grind arith) (letters_plain w (All-tail IsLetterOrDigit b w a))

-- a category name is plain
pub name_plain : (w : List ℕ) → IsCategoryName w → IsPlain w
name_plain w n = letters_plain w (letters w n)

-- a connective
joint_plain : (j : Joint) → IsPlain (joint_bytes j)
joint_plain joint.Iff = ascii_plain (codes "<->") refl
joint_plain joint.Implies = ascii_plain (codes "->") refl
joint_plain joint.Xor = ascii_plain (codes "^") refl
joint_plain joint.Or = ascii_plain (codes "|") refl
joint_plain joint.And = ascii_plain (codes "&") refl

-- a comparison
op_plain : (op : Op) → IsPlain (mark_bytes (comparing op))
op_plain Op.Equal = ascii_plain (codes "=") refl
op_plain Op.Less = ascii_plain (codes "<") refl
op_plain Op.AtMost = ascii_plain (codes "<=") refl

-- digits
digits_plain : (ds : List ℕ) → all_ascii_digits ds ≡ true → IsPlain ds
digits_plain [] e = plain-nil
digits_plain (b ∷ ds) e =
    let d = and_parts (is_ascii_digit b) (all_ascii_digits ds) e in
    let t = d.0 in
    plain-cons b ds (grind arith) (grind arith) (digits_plain ds d.1)

-- a canonical numeral is plain
numeral_plain : (z : ℤ) → IsSmall z → IsPlain (canonical z)
numeral_plain (pos n) small = digits_plain (decimal n) (digits_in_decimal n small).digits
numeral_plain (negsuc n) small =
    byte 45 (decimal (suc n)) refl (digits_plain (decimal (suc n)) (digits_behind_dash n small).digits)

-- a plain text as a string
quoted_plain : (k : List ℕ) → IsPlain k → IsPlain (quoted k)
quoted_plain k p =
    byte 34 (flat_map escaped_byte k ++ 34 ∷ []) refl
    (plain-append (flat_map escaped_byte k) (34 ∷ []) (escaped_plain k p) (ascii_plain (34 ∷ []) refl))

-- two plain texts joined by a connective
joined_plain : (j : Joint) (x y : List ℕ) → IsPlain x → IsPlain y → IsPlain (joined_text j x y)
joined_plain j x y p q =
    byte 40 (x ++ 32 ∷ (joint_bytes j ++ 32 ∷ (y ++ 41 ∷ []))) refl
    (plain-append x (32 ∷ (joint_bytes j ++ 32 ∷ (y ++ 41 ∷ []))) p
    (byte 32 (joint_bytes j ++ 32 ∷ (y ++ 41 ∷ [])) refl
    (plain-append (joint_bytes j) (32 ∷ (y ++ 41 ∷ [])) (joint_plain j)
    (byte 32 (y ++ 41 ∷ []) refl (plain-append y (41 ∷ []) q (ascii_plain (41 ∷ []) refl))))))

module _ (g : Graph) (h : IsHierarchy g) where
  after_plain : (m : ℕ) (cs : List ℕ) → is_printable m ≡ true → AreCategories g cs → IsPlain (names_after g m cs)
  after_plain m [] e v = plain-nil
  after_plain m (c ∷ cs) e v =
      byte m (name_of_category g c ++ names_after g m cs) e
      (plain-append (name_of_category g c) (names_after g m cs)
      (name_plain (name_of_category g c) (name_is g h c v.0)) (after_plain m cs e v.1))

  atom_plain : (r m : ℕ) (cs : List ℕ) → is_printable m ≡ true → IsCategory g r → AreCategories g cs
      → IsPlain (atom_word g r m cs)
  atom_plain r m cs e l v =
      plain-append (name_of_category g r) (names_after g m cs) (name_plain (name_of_category g r) (name_is g h r l))
      (after_plain m cs e v)

  compared_plain : (r d : ℕ) → IsCategory g r → IsCategory g d → IsPlain (compared_word g r d)
  compared_plain r d l k = go (d == r)
    where
      go : (b : Bool) → IsPlain (cond b (name_of_category g r) (atom_word g r 46 (d ∷ [])))
      go true = name_plain (name_of_category g r) (name_is g h r l)
      go false = atom_plain r 46 (d ∷ []) refl l (k, tt)

-- texts of two lists are those of the first
pub left_texts : (xs ys : List Equality) → AreTexts (xs ++ ys) → AreTexts xs
left_texts xs ys t a c = t a (Contains-append_left xs ys a c)

-- and of the second
pub right_texts : (xs ys : List Equality) → AreTexts (xs ++ ys) → AreTexts ys
right_texts xs ys t a c = t a (Contains-append_right xs ys a c)

-- a word and a string
compared : (w k : List ℕ) → IsPlain w → IsPlain k → IsPlain (w ++ 32 ∷ 61 ∷ 32 ∷ quoted k)
compared w k p q =
    plain-append w (32 ∷ 61 ∷ 32 ∷ quoted k) p
    (byte 32 (61 ∷ 32 ∷ quoted k) refl (byte 61 (32 ∷ quoted k) refl (byte 32 (quoted k) refl (quoted_plain k q))))

-- a word and a number
numbered : (w : List ℕ) (op : Op) (z : ℤ) → IsPlain w → IsSmall z
    → IsPlain (w ++ 32 ∷ (mark_bytes (comparing op) ++ 32 ∷ canonical z))
numbered w op z p small =
    plain-append w (32 ∷ (mark_bytes (comparing op) ++ 32 ∷ canonical z)) p
    (byte 32 (mark_bytes (comparing op) ++ 32 ∷ canonical z) refl
    (plain-append (mark_bytes (comparing op)) (32 ∷ canonical z) (op_plain op)
    (byte 32 (canonical z) refl (numeral_plain z small))))

module _ (g : Graph) (h : IsHierarchy g) (r : ℕ) (l : IsCategory g r) where
  both : (j : Joint) (f k : Formula) → (AreTexts (equalities f) → IsPlain (formula_text g r f))
      → (AreTexts (equalities k) → IsPlain (formula_text g r k)) → AreTexts (equalities f ++ equalities k)
      → IsPlain (joined_text j (formula_text g r f) (formula_text g r k))
  both j f k p q t = joined_plain j (formula_text g r f) (formula_text g r k)
      (p (left_texts (equalities f) (equalities k) t)) (q (right_texts (equalities f) (equalities k) t))

  mutual
    -- a printed formula is plain where its constants are
    pub formula_plain : (f : Formula) → IsFormulaAt g r f → AreTexts (equalities f) → IsPlain (formula_text g r f)
    formula_plain Meaning.Formula.Truth v t = ascii_plain (codes "true") refl
    formula_plain Meaning.Formula.Falsity v t = ascii_plain (codes "false") refl
    formula_plain (Meaning.Formula.Path cs) v t = atom_plain g h r 95 cs refl l (steps_are g h r cs v.1)
    formula_plain (Meaning.Formula.Reach d) v t = atom_plain g h r 46 (d ∷ []) refl l (v, tt)
    formula_plain (Meaning.Formula.Via d e) v t = atom_plain g h r 46 (d ∷ e ∷ []) refl l (v.0, (v.1, tt))
    formula_plain (Meaning.Formula.Equals d k) v t =
        compared (compared_word g r d) k (compared_plain g h r d l v.0)
        (from_not_bad k (t (record { category = d; text = k }) (0, lit< tt, refl)))
    formula_plain (Meaning.Formula.Compare d op n) v t =
        numbered (compared_word g r d) op n (compared_plain g h r d l v.0) v.2
    formula_plain (Meaning.Formula.Not f) v t = byte 33 (formula_text g r f) refl (formula_plain f v t)
    formula_plain (Meaning.Formula.And f k) v t = both joint.And f k (formula_plain f v.0) (formula_plain k v.1) t
    formula_plain (Meaning.Formula.Or f k) v t = both joint.Or f k (formula_plain f v.0) (formula_plain k v.1) t
    formula_plain (Meaning.Formula.Implies f k) v t =
        both joint.Implies f k (formula_plain f v.0) (formula_plain k v.1) t
    formula_plain (Meaning.Formula.Iff f k) v t = both joint.Iff f k (formula_plain f v.0) (formula_plain k v.1) t
    formula_plain (Meaning.Formula.Xor f k) v t = both joint.Xor f k (formula_plain f v.0) (formula_plain k v.1) t
    formula_plain (Meaning.Formula.One fs) v t =
        plain-append (codes "one(") (list_text g r fs ++ 41 ∷ []) (ascii_plain (codes "one(") refl)
        (plain-append (list_text g r fs) (41 ∷ []) (list_plain fs v t) (ascii_plain (41 ∷ []) refl))

    list_plain : (fs : Terms) → AreFormulasAt g r fs → AreTexts (equalities_of_terms fs) → IsPlain (list_text g r fs)
    list_plain Meaning.Terms.End v t = plain-nil
    list_plain (Meaning.Terms.More f fs) v t =
        plain-append (formula_text g r f) (rest_text g r fs)
        (formula_plain f v.0 (left_texts (equalities f) (equalities_of_terms fs) t))
        (rest_plain fs v.1 (right_texts (equalities f) (equalities_of_terms fs) t))

    rest_plain : (fs : Terms) → AreFormulasAt g r fs → AreTexts (equalities_of_terms fs) → IsPlain (rest_text g r fs)
    rest_plain Meaning.Terms.End v t = plain-nil
    rest_plain (Meaning.Terms.More f fs) v t =
        byte 44 (32 ∷ (formula_text g r f ++ rest_text g r fs)) refl
        (byte 32 (formula_text g r f ++ rest_text g r fs) refl
        (plain-append (formula_text g r f) (rest_text g r fs)
        (formula_plain f v.0 (left_texts (equalities f) (equalities_of_terms fs) t))
        (rest_plain fs v.1 (right_texts (equalities f) (equalities_of_terms fs) t))))
