-- That the target is reached compares nothing.
use Rattle.std.proofs.Common.{refl}
use Rattle.olap_ast.{proofs.SourceLemmas.no_more_constants, specs.Formula.Formula.Reach}
use Rattle.olap_schema.specs.Schemas.{schema_of}
use Rattle.olap_cube_summ.proofs.looking.Lookout.new.Goals as goal

pub new-requires-2-clause-few : goal.new-requires-2-clause-few
new-requires-2-clause-few c =
    no_more_constants (schema_of c.args.schema.now) (Reach c.args.question.now.target.0)
    c.constraints-valid.ensures.valid refl refl
