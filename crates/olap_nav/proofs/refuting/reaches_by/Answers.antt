use Rattle.std.{proofs.Common.{◌↔◌, map, sym, subst}, specs.Prelude.IsTrue}
use Rattle.olap_ast.specs.{Formula.Formula.Via, Frozen.{AreCandidates, IsFrozen}, Schema.Schema, Trees.constraint_of}
use Rattle.olap_frozen.specs.LeastFound.{frozen_of}
use Rattle.olap_names.{proofs.WholeLemmas.whole_is, specs.Names.candidates_of}
use Rattle.olap_nav.proofs.FoundLemmas.{candidates_for, way_is}
use Rattle.olap_schema.specs.Schemas.{schema_of}
use Rattle.olap_nav.proofs.refuting.reaches_by.Goals as goal

pub is_frozen-is_way-requires-clause-candidates : goal.is_frozen-is_way-requires-clause-candidates
is_frozen-is_way-requires-clause-candidates c =
    let s = schema_of c.args.schema.now in
    let whole = whole_is s c.graph.result.now (map constraint_of c.constraints.result.now) c.graph.ensures
    c.constraints.ensures.list in
    subst (λ (w : Schema). AreCandidates w (Via c.args.category.0 c.args.target.0)
    (candidates_of c.args.found.now.candidates)) (sym whole)
    (candidates_for s c.args.target.0 c.args.found.now c.constraints.ensures.valid.hierarchy c.requires.found
    c.args.category.0)

pub returns-clause-way : goal.returns-clause-way
returns-clause-way c =
    let s = schema_of c.args.schema.now in
    let found = c.args.found.now in
    let whole = whole_is s c.graph.result.now (map constraint_of c.constraints.result.now) c.graph.ensures
    c.constraints.ensures.list in
    let way = way_is s c.args.target.0 found c.constraints.ensures.valid.hierarchy c.requires.found c.args.category.0 in
    let via = Via c.args.category.0 c.args.target.0 in
    let frozen = subst (λ (w : Schema). IsTrue c.is_frozen-is_way.result ↔ IsFrozen w via found.frozen.root.0
    (candidates_of found.candidates) (frozen_of found.frozen)) whole c.is_frozen-is_way.ensures.frozen in
    (λ e. way.0 (frozen.0 e), λ w. frozen.1 (way.1 w))
