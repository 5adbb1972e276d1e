use Rattle.std.proofs.Common.{refl}
use Rattle.olap_ast.{proofs.SourceLemmas.no_more_constants, specs.Formula.Formula.Truth}
use Rattle.olap_schema.specs.Schemas.{schema_of}
use Rattle.olap_search_tests.proofs.dimsat.search_at.Goals as goal

pub new-requires-clause-few : goal.new-requires-clause-few
new-requires-clause-few given c =
    no_more_constants (schema_of c.args.schema.now) Truth c.constraints-valid.ensures.valid refl refl
