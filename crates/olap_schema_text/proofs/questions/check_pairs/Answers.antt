-- The pairs are as many as the constants.
use Rattle.olap_ast.{proofs.ComparedLemmas.constants_counted, specs.Trees.formula_of}
use Rattle.olap_schema.specs.Schemas.{schema_of}
use Rattle.olap_schema_text.proofs.questions.check_pairs.Goals as goal

pub returns : goal.returns
returns c =
    rw (constants_counted (schema_of c.args.schema.now).constraints (formula_of c.args.f.now)) c.add_all_pairs.ensures
