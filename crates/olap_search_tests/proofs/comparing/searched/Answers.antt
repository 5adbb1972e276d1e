-- The question has few constants together with the schema.
use Rattle.std.proofs.Common.{◌≤◌, subst}
use Rattle.olap_ast.{proofs.ComparedLemmas.constants_counted, specs.Trees.formula_of}
use Rattle.olap_base.specs.Limits.{most_constants}
use Rattle.olap_schema.specs.Schemas.{schema_of}
use Rattle.olap_search_tests.proofs.comparing.searched.Goals as goal

pub new-requires-clause-few : goal.new-requires-clause-few
new-requires-clause-few c =
    let s = schema_of c.args.schema.now in
    subst (λ n. n ≤ most_constants) (constants_counted s.constraints (formula_of c.args.question.now))
    c.requires.question.constants_fit
