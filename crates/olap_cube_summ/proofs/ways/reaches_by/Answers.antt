use Rattle.std.proofs.Common.{map}
use Rattle.olap_ast.specs.Trees.{constraint_of}
use Rattle.olap_schema.specs.Schemas.{schema_of}
use Rattle.olap_cube_summ.{proofs.WayLemmas.{candidates_for, way_is}, specs.Patterns.named_by}
use Rattle.olap_names.proofs.WholeLemmas.{whole_is}
use Rattle.olap_cube_summ.proofs.ways.reaches_by.Goals as goal

pub is_frozen-is_way-requires-clause-candidates : goal.is_frozen-is_way-requires-clause-candidates
is_frozen-is_way-requires-clause-candidates c =
    let s = schema_of c.args.schema.now in
    rw (whole_is s c.graph.result.now (map constraint_of c.constraints.result.now) c.graph.ensures
    c.constraints.ensures.list) (candidates_for s c.args.target.0
    (named_by c.args.candidates.now c.args.frozen.now) c.requires.found c.args.source.0)

pub returns-clause-way : goal.returns-clause-way
returns-clause-way c = λ x m.
    let s = schema_of c.args.schema.now in
    let way = way_is s c.args.target.0 (named_by c.args.candidates.now c.args.frozen.now) c.requires.found
    c.args.source.0 x m in
    let frozen = rw (whole_is s c.graph.result.now (map constraint_of c.constraints.result.now) c.graph.ensures
    c.constraints.ensures.list) at c.is_frozen-is_way.ensures.frozen in
    (λ e. way.0 (frozen.0 e), λ w. frozen.1 (way.1 w))
