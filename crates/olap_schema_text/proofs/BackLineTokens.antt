-- The lines of a printed schema are cut into their tokens, are plain, and say something.
use Rattle.std.proofs.Common.{◌≡◌, ℕ, Bool, true, false, List, [], ◌∷◌, ◌++◌, Some, refl, append-nil, codes}
use Rattle.std.{proofs.lemmas.Bool.and_parts, specs.List.list_all}
use Rattle.olap_base.specs.Graph.{Edge, Graph, IsCategory, IsCategoryName, IsHierarchy}
use Rattle.olap_graph.specs.Lookups.{name_of_category}
use Rattle.olap_ast.specs.{Atoms.equalities, Schema.Constraint, Valid.IsFormulaAt}
use Rattle.olap_grammar.proofs.{CutComplete.cut_is_found, LongestLemmas.cut_mark}
use Rattle.olap_grammar.specs.{Cutting.{AreWordBytes, is_word_byte, IsCut, blank, end, word}, CuttingMachine.tokens_of}
use Rattle.olap_grammar.specs.declared.tokens.{Token.Token, Version.Version}
use Rattle.olap_schema_text.proofs.BackBytes.{IsPlain, plain-append}
use Rattle.olap_schema_text.proofs.{BackPlain.{ascii_plain, formula_plain, name_plain}, BackStatements.kind_tokens}
use Rattle.olap_schema_text.proofs.{PrintCut.{cut_word, name_is_word, text_is_cut}, PrintNames.name_is}
use Rattle.olap_schema_text.{proofs.PrintTokens.spelt, specs.Lines.is_quiet}
use Rattle.olap_schema_text.specs.Printing.{category_text, constraint_text, edge_text, formula_text, kind_text, version_text}
use Rattle.olap_schema.specs.Readable.{AreTexts}
use Rattle.olap_grammar.specs.declared.tokens.Token.TheVariants as token
use Rattle.olap_grammar.specs.declared.tokens.Mark.TheVariants as mark
use Rattle.olap_grammar.specs.declared.tokens.Version.TheVariants as version

-- bytes of words, by the test
word_bytes : (w : List ℕ) → list_all is_word_byte w ≡ true → AreWordBytes w
word_bytes [] e = tt
word_bytes (b ∷ w) e = let t = and_parts (is_word_byte b) (list_all is_word_byte w) e in (t.0, word_bytes w t.1)

-- a keyword with a space after it
keyword : (v : Version) (b : ℕ) (w bs : List ℕ) (ts : List Token) → list_all is_word_byte (b ∷ w) ≡ true → IsCut v bs ts
    → IsCut v ((b ∷ w) ++ 32 ∷ bs) (token.Word (b ∷ w) ∷ ts)
keyword v b w bs ts e d = word b w (word_bytes (b ∷ w) e) refl (blank d)

-- a word at the end of a line
last_word : (v : Version) (b : ℕ) (w : List ℕ) → list_all is_word_byte (b ∷ w) ≡ true
    → IsCut v (b ∷ w) (token.Word (b ∷ w) ∷ [])
last_word v b w e =
    let cut : IsCut v ((b ∷ w) ++ []) (token.Word (b ∷ w) ∷ []) = word b w (word_bytes (b ∷ w) e) tt end in
    rw (append-nil (b ∷ w)) at cut

-- a category name there
last_name : (v : Version) (w : List ℕ) → IsCategoryName w → IsCut v w (token.Word w ∷ [])
last_name v w n =
    let cut : IsCut v (w ++ []) (token.Word w ∷ []) = cut_word (name_is_word w n) tt end in rw (append-nil w) at cut

-- a category's name, and what says its kind
kind_cut : (name : List ℕ) (number : Bool) → IsCategoryName name
    → IsCut version.Two (name ++ kind_text number) (token.Word name ∷ kind_tokens number)
kind_cut name true n =
    cut_word (name_is_word name n) refl (blank (last_word version.Two 110 (codes "umber") refl))
kind_cut name false n = cut_word (name_is_word name n) tt end

-- ---- tokens

-- the version's line is cut by the first version
pub version_tokens :
    tokens_of version.One version_text ≡ Some (token.Word (codes "schema") ∷ token.Word (codes "2") ∷ [])
version_tokens =
    cut_is_found version.One _ _
    (keyword version.One 115 (codes "chema") (codes "2") (token.Word (codes "2") ∷ []) refl
    (last_word version.One 50 [] refl))

-- the tokens of a category's line
pub category_tokens : (name : List ℕ) (number : Bool) → IsCategoryName name
    → tokens_of version.Two (category_text (name, number))
    ≡ Some (token.Word (codes "category") ∷ token.Word name ∷ kind_tokens number)
category_tokens name number n =
    cut_is_found version.Two _ _
    (keyword version.Two 99 (codes "ategory") (name ++ kind_text number) (token.Word name ∷ kind_tokens number) refl
    (kind_cut name number n))

module _ (g : Graph) (h : IsHierarchy g) where
  pub edge_tokens : (e : Edge) → IsCategory g e.child → IsCategory g e.parent →
      tokens_of version.Two (edge_text g e) ≡ Some
      (token.Word (codes "edge") ∷ token.Word (name_of_category g e.child) ∷ token.Word
      (name_of_category g e.parent) ∷ [])
  edge_tokens e l m =
      let parent = last_name version.Two (name_of_category g e.parent) (name_is g h e.parent m) in
      let child : IsCut version.Two (name_of_category g e.child ++ 32 ∷ name_of_category g e.parent)
      (token.Word (name_of_category g e.child) ∷ token.Word (name_of_category g e.parent) ∷ []) =
      cut_word (name_is_word (name_of_category g e.child) (name_is g h e.child l)) refl (blank parent) in
      cut_is_found version.Two _ _
      (keyword version.Two 101 (codes "dge") (name_of_category g e.child ++ 32 ∷ name_of_category g e.parent)
      (token.Word (name_of_category g e.child) ∷ token.Word (name_of_category g e.parent) ∷ []) refl child)

  pub constraint_tokens : (c : Constraint) → IsCategory g c.root → IsFormulaAt g c.root c.formula →
      tokens_of version.Two (constraint_text g c) ≡ Some
      (token.Word (codes "constraint") ∷ token.Word (name_of_category g c.root) ∷ token.Mark mark.Colon ∷ spelt g c.root
      c.formula)
  constraint_tokens c l v =
      let name = name_of_category g c.root in
      let text = formula_text g c.root c.formula in
      let cut : IsCut version.Two text (spelt g c.root c.formula) =
      rw (append-nil text, append-nil (spelt g c.root c.formula)) at
      (text_is_cut g h c.root l c.formula v [] [] tt end) in
      let rest : IsCut version.Two (name ++ 58 ∷ 32 ∷ text)
      (token.Word name ∷ token.Mark mark.Colon ∷ spelt g c.root c.formula) =
      cut_word (name_is_word name (name_is g h c.root l)) refl (cut_mark mark.Colon tt tt (blank cut)) in
      cut_is_found version.Two _ _
      (keyword version.Two 99 (codes "onstraint") (name ++ 58 ∷ 32 ∷ text)
      (token.Word name ∷ token.Mark mark.Colon ∷ spelt g c.root c.formula) refl rest)

-- ---- bytes

-- the version line is plain
pub version_plain : IsPlain version_text
version_plain = ascii_plain (codes "schema 2") refl

-- so is what stands after a name
kind_plain : (number : Bool) → IsPlain (kind_text number)
kind_plain true = ascii_plain (codes " number") refl
kind_plain false = ascii_plain [] refl

-- a category's line
pub category_plain : (name : List ℕ) (number : Bool) → IsCategoryName name → IsPlain (category_text (name, number))
category_plain name number n =
    plain-append (codes "category ") (name ++ kind_text number) (ascii_plain (codes "category ") refl)
    (plain-append name (kind_text number) (name_plain name n) (kind_plain number))

-- an edge's
pub edge_plain : (g : Graph) → IsHierarchy g → (e : Edge) → IsCategory g e.child → IsCategory g e.parent
    → IsPlain (edge_text g e)
edge_plain g h e l m =
    plain-append (codes "edge ") (name_of_category g e.child ++ 32 ∷ name_of_category g e.parent)
    (ascii_plain (codes "edge ") refl)
    (plain-append (name_of_category g e.child) (32 ∷ name_of_category g e.parent)
    (name_plain (name_of_category g e.child) (name_is g h e.child l))
    (plain-append (32 ∷ []) (name_of_category g e.parent) (ascii_plain (32 ∷ []) refl)
    (name_plain (name_of_category g e.parent) (name_is g h e.parent m))))

-- and a constraint's, if its constants are plain
pub constraint_plain : (g : Graph) → IsHierarchy g → (c : Constraint) → IsCategory g c.root
    → IsFormulaAt g c.root c.formula → AreTexts (equalities c.formula) → IsPlain (constraint_text g c)
constraint_plain g h c l v t =
    let name = name_of_category g c.root in
    let text = formula_text g c.root c.formula in
    plain-append (codes "constraint ") (name ++ 58 ∷ 32 ∷ text) (ascii_plain (codes "constraint ") refl)
    (plain-append name (58 ∷ 32 ∷ text) (name_plain name (name_is g h c.root l))
    (plain-append (58 ∷ 32 ∷ []) text (ascii_plain (58 ∷ 32 ∷ []) refl) (formula_plain g h c.root l c.formula v t)))

-- ---- none is blank or a comment

-- the version line is no comment and not blank
pub version_speaks : is_quiet version_text ≡ false
unfolding is_quiet
version_speaks = refl

-- nor is a category's
pub category_speaks : (name : List ℕ) (number : Bool) → is_quiet (category_text (name, number)) ≡ false
unfolding is_quiet
category_speaks name number = refl

-- nor an edge's
pub edge_speaks : (g : Graph) (e : Edge) → is_quiet (edge_text g e) ≡ false
unfolding is_quiet
edge_speaks g e = refl

-- nor a constraint's
pub constraint_speaks : (g : Graph) (c : Constraint) → is_quiet (constraint_text g c) ≡ false
unfolding is_quiet
constraint_speaks g c = refl
