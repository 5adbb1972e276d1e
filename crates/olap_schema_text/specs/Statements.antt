-- Statements: what the tokens of a line say.
use Rattle.std.specs.Prelude.{◌&&◌, ℕ, Bool, true, false, List, [], ◌∷◌, codes, if◌then◌else◌}
use Rattle.std.specs.Str.{bytes_eq}
use Rattle.olap_base.specs.Reaching.{is_category_name}
use Rattle.olap_grammar.specs.declared.tokens.Token.{Token}
use Rattle.olap_grammar.specs.declared.tokens.Token.TheVariants as token
use Rattle.olap_grammar.specs.declared.tokens.Mark.TheVariants as mark
use Rattle.olap_grammar.specs.declared.tokens.Version as versions
use Rattle.olap_grammar.specs.declared.tokens.Version.TheVariants as version

-- a line of the schema: the version, a category and whether its names are numbers, an edge, a constraint with the
-- tokens of its formula, or none of these
pub data Statement : Type 0 where
  Version : versions.Version → Statement
  Category : (name : List ℕ) (number : Bool) → Statement
  Edge : (child parent : List ℕ) → Statement
  Constraint : (root : List ℕ) (formula : List Token) → Statement
  Other : Statement

-- `schema 1` or `schema 2`; `category`, a name, and `number` or nothing; `edge` and two names; `constraint`, a name, a
-- colon and the tokens of a formula
unfoldable pub statement_of : List Token → Statement
statement_of (token.Word keyword ∷ token.Word name ∷ []) =
    if bytes_eq keyword (codes "schema") && bytes_eq name (codes "1") then Version version.One
    else if bytes_eq keyword (codes "schema") && bytes_eq name (codes "2") then Version version.Two
    else if bytes_eq keyword (codes "category") && is_category_name name then Category name false
    else Other
statement_of (token.Word keyword ∷ token.Word first ∷ token.Word second ∷ []) =
    if bytes_eq keyword (codes "edge") && is_category_name first && is_category_name second then Edge first second
    else if bytes_eq keyword (codes "category") && is_category_name first && bytes_eq second (codes "number")
    then Category first true
    else Other
statement_of (token.Word keyword ∷ token.Word root ∷ token.Mark mark.Colon ∷ formula) =
    if bytes_eq keyword (codes "constraint") && is_category_name root then Constraint root formula else Other
statement_of ts = Other
