-- What the tokens of printed lines say.
use Rattle.std.proofs.Common.{◌≡◌, ℕ, Bool, true, false, List, [], ◌∷◌, refl, codes}
use Rattle.olap_base.specs.Reaching.{is_category_name}
use Rattle.olap_grammar.specs.declared.tokens.Token.{Token}
use Rattle.olap_schema_text.specs.Statements.{Category, Constraint, Edge, Version, statement_of}
use Rattle.olap_grammar.specs.declared.tokens.Token.TheVariants as token
use Rattle.olap_grammar.specs.declared.tokens.Mark.TheVariants as mark
use Rattle.olap_grammar.specs.declared.tokens.Version.TheVariants as version

-- the version line says the second version
pub version_says : statement_of (token.Word (codes "schema") ∷ token.Word (codes "2") ∷ []) ≡ Version version.Two
unfolding statement_of
version_says = refl

-- what stands after the name of a category
abbrev pub kind_tokens : Bool → List Token
kind_tokens true = token.Word (codes "number") ∷ []
kind_tokens false = []

-- a category's line says the category and its kind
pub category_says : (name : List ℕ) (number : Bool) → is_category_name name ≡ true
    → statement_of (token.Word (codes "category") ∷ token.Word name ∷ kind_tokens number) ≡ Category name number
unfolding statement_of
category_says name true e = rw e refl
category_says name false e = rw e refl

-- an edge's line says its ends
pub edge_says : (child parent : List ℕ) → is_category_name child ≡ true → is_category_name parent ≡ true →
    statement_of (token.Word (codes "edge") ∷ token.Word child ∷ token.Word parent ∷ []) ≡ Edge child parent
unfolding statement_of
edge_says child parent d e = rw (d, e) refl

-- a constraint's line says its root and the tokens of its formula
pub constraint_says : (root : List ℕ) (ts : List Token) → is_category_name root ≡ true →
    statement_of (token.Word (codes "constraint") ∷ token.Word root ∷ token.Mark mark.Colon ∷ ts) ≡ Constraint root ts
unfolding statement_of
constraint_says root ts e = rw e refl
