use Rattle.std.proofs.Common.{ap, length}
use Rattle.olap_schema.specs.Schemas.{schema_of}
use Rattle.olap_cube_summ.{proofs.LeastChoiceLemmas.is_least_before, specs.Choices.Dimension}
use Rattle.olap_cube_summ.proofs.choosing.take_least.Goals as goal

pub returns-clause-least : goal.returns-clause-least
returns-clause-least c =
    let n = length c.args.question.now.sources in
    let d : Dimension = record {
      schema = schema_of c.args.schema.now;
      question = c.args.question.now;
      family = c.args.family;
    } in
    is_least_before n d c.requires.dimension c.args.rest.now c.args.mask c.possible-patterns.result
    (rw (ap length c.items-sources.ensures) at c.possible-patterns.ensures)
    c.in_ok-found.found c.in_ok-found.ensures c.pattern-pattern.result c.pattern-pattern.ensures.pattern
