-- What is written for the parts of the schema is what is asked of it.
use Rattle.olap_ast.specs.Trees.{numbers_of}
use Rattle.olap_schema.specs.Schemas.{schema_of}
use Rattle.olap_proof.proofs.QuestionLemmas.{none_frozen, question_named, written}
use Rattle.olap_proof.proofs.plain.plain_certificate.Goals as goal

pub plain_by_names-requires : goal.plain_by_names-requires
plain_by_names-requires c =
    let s = schema_of c.args.schema.now in
    let sources = numbers_of c.args.sources.now in
    record {
      named = question_named s c.args.target.0 sources c.graph.ensures c.constraints.ensures.list
          c.in_ok-question.ensures c.constraints.ensures.valid c.requires.target c.requires.sources;
      none = none_frozen s c.args.target.0 sources c.graph.ensures c.constraints.ensures.list
          c.in_ok-question.ensures c.requires.summarizable;
    }

pub returns-clause-certificate : goal.returns-clause-certificate
returns-clause-certificate c =
    written c.args.form (schema_of c.args.schema.now) c.args.target.0 (numbers_of c.args.sources.now) c.graph.ensures
    c.constraints.ensures.list c.in_ok-question.ensures c.plain_by_names.result c.plain_by_names.ensures.certificate
