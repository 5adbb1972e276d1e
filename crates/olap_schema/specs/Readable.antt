-- What each schema keeps, so that some text stands for it.
--     is_control    a control character
--     is_bad        bytes that can't stand in a line
--     AreTexts      all constants can stand in a line
--     IsReadable    the schema is valid, and its constants can stand in a line
use Rattle.std.specs.Prelude.{◌≡◌, ◌==◌, ◌||◌, ◌&&◌, ℕ, Bool, false, not, List, Contains, flat_map, nat_lt}
use Rattle.std.specs.List.{list_any}
use Rattle.std.specs.Str.{is_utf8}
use Rattle.olap_base.specs.Bytes.{delete, space, tab}
use Rattle.olap_ast.specs.Atoms.{Equality, equalities}
use Rattle.olap_ast.specs.Schema.{Schema}
use Rattle.olap_ast.specs.Valid.{IsValidSchema}

-- a character before the space other than a tab, or the last of ASCII
abbrev pub is_control : ℕ → Bool
is_control b = (nat_lt b space && not (b == tab)) || (b == delete)

-- the line isn't UTF-8, or has a control character
abbrev pub is_bad : List ℕ → Bool
is_bad line = not (is_utf8 line) || list_any is_control line

-- each constant is UTF-8 and has no control character
abbrev pub AreTexts : List Equality → Type 0
AreTexts atoms = (a : Equality) → Contains atoms a → is_bad a.text ≡ false

-- the schema is valid, and its constants can stand in a line
pub record IsReadable (s : Schema) : Type 0 where
  pub valid : IsValidSchema s
  pub texts : AreTexts (flat_map (λ c. equalities c.formula) s.constraints)
