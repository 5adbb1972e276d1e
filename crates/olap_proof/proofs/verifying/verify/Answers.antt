-- What was judged of the parts of the schema is what is asked of it.
use Rattle.olap_ast.specs.Trees.{numbers_of}
use Rattle.olap_schema.specs.Schemas.{schema_of}
use Rattle.olap_proof.proofs.QuestionLemmas.{accepted, question_named, rejected, shown}
use Rattle.olap_proof.proofs.verifying.verify.Goals as goal

pub judge-requires-clause-named : goal.judge-requires-clause-named
judge-requires-clause-named c =
    question_named (schema_of c.args.schema.now) c.args.target.0 (numbers_of c.args.sources.now) c.graph.ensures
    c.constraints.ensures.list c.in_ok-question.ensures c.constraints.ensures.valid c.requires.target
    c.requires.sources

pub returns-clause-ok : goal.returns-clause-ok
returns-clause-ok c =
    accepted c.args.form (schema_of c.args.schema.now) c.args.target.0 (numbers_of c.args.sources.now) c.graph.ensures
    c.constraints.ensures.list c.in_ok-question.ensures c.args.text.now c.judge.result c.judge.ensures.ok

pub returns-clause-summarizable : goal.returns-clause-summarizable
returns-clause-summarizable c =
    shown c.args.form (schema_of c.args.schema.now) c.args.target.0 (numbers_of c.args.sources.now) c.graph.ensures
    c.constraints.ensures.list c.in_ok-question.ensures c.args.text.now c.constraints.ensures.valid.hierarchy
    c.judge.result c.judge.ensures.ok

pub returns-clause-rejected : goal.returns-clause-rejected
returns-clause-rejected c = λ line e.
    rejected c.args.form (schema_of c.args.schema.now) c.args.target.0 (numbers_of c.args.sources.now) c.graph.ensures
    c.constraints.ensures.list c.in_ok-question.ensures c.args.text.now (c.judge.ensures.rejected line e)
