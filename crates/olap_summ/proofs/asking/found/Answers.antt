use Rattle.olap_ast.specs.Trees.{formula_of}
use Rattle.olap_schema.specs.Schemas.{schema_of}
use Rattle.olap_summ.proofs.AskingLemmas.{none_exactly}
use Rattle.olap_summ.proofs.asking.found.Goals as goal

pub returns-clause-none : goal.returns-clause-none
returns-clause-none c =
    none_exactly c.args.wanted (schema_of c.args.schema.now) (formula_of c.args.question.now) c.args.root.0
    c.find.result c.constraints-valid.ensures.valid.hierarchy c.find.ensures.none c.find.ensures.some
