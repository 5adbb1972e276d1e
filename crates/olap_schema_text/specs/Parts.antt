-- Parts of what a text stands for, by which the readers are described.
--     version_at            the version by which a line is read
--     has_too_many_nodes    the check of a formula's nodes
--     tokens_read           a line that was cut
--     question_cut          a question that was cut
use Rattle.std.specs.Prelude.{◌||◌, ◌+◌, ℕ, Bool, List, Option, Result, Ok, Err, unwrap_or, nat_lt, if◌then◌else◌, codes}
use Rattle.olap_base.specs.Limits.{most_nodes, most_schema_nodes}
use Rattle.olap_ast.specs.Formula.{Formula}
use Rattle.olap_ast.specs.Schema.{Schema}
use Rattle.olap_graph.specs.Lookups.{name_of_category}
use Rattle.olap_grammar.specs.declared.tokens.Token.{Token}
use Rattle.olap_grammar.specs.declared.tokens.Version.{Version}
use Rattle.olap_grammar.specs.declared.tokens.Version.TheVariants as version
use Rattle.olap_schema_text.specs.Judging.{Above, formula_read, has_too_many_constants, statement_read}
use Rattle.olap_schema_text.specs.Resolving.{resolved}
use Rattle.olap_base.specs.Following.{given, goes_on}
use Rattle.olap_schema_text.specs.Statements.{statement_of}

-- the version by which a line is read: the first before the version is known
abbrev pub version_at : Above → Version
version_at a = unwrap_or a.version version.One

-- a formula of this many nodes has too many, by itself or with those on the lines above
abbrev pub has_too_many_nodes : ℕ → ℕ → Bool
has_too_many_nodes before nodes = nat_lt most_nodes nodes || nat_lt most_schema_nodes (before + nodes)

-- what is known after a line with these tokens; `BadForm` if it can't be cut into tokens
abbrev pub tokens_read : Above → ℕ → Option (List Token) → Result Above (List ℕ)
tokens_read a n ts = given ts (codes "BadForm") (λ ts. statement_read a n a.version (statement_of ts))

-- a question that has no bad byte, by the second version, whatever the schema's was
abbrev pub question_cut : Schema → ℕ → Option (List Token) → Result Formula (List ℕ)
question_cut s root ts =
    given ts (codes "BadForm") (λ ts.
    goes_on (formula_read version.Two 0 (name_of_category s.graph root) ts) (λ form.
    goes_on (resolved s.graph root form) (λ f.
    if has_too_many_constants s.constraints f then Err (codes "TooManyConstants") else Ok f)))
