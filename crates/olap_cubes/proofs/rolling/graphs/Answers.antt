use Rattle.std.proofs.{Common.{◌<◌, ◌≤◌, ◌++◌, [], ◌∷◌, List, ap, arith, length, ◌∙◌}, lemmas.List.map-append}
use Rattle.olap_ast.specs.Schema.{Schema}
use Rattle.olap_base.specs.Graph.{Graph}
use Rattle.olap_cube_views.specs.Dimensions.{graphs_of as graphs_at}
use Rattle.olap_cube_summ.specs.Dimensions.{schemas_of}
use Rattle.olap_cubes.proofs.DimensionLemmas.{graphs_all, graphs_more}
use Rattle.olap_cubes.proofs.rolling.graphs.Goals as goal

pub dimensions-preserved : goal.dimensions-preserved
dimensions-preserved c =
    let schemas = schemas_of c.args.cube.now in
    let this : c.dimensions.k < length schemas = omega (arith, c.len-k-end.ensures.count) in
    graphs_more schemas c.dimensions.k (graphs_at c.push.new.self.items) c.graph.result.now this
    (c.graph.ensures ∙ ap (λ (s : Schema). s.graph) c.schema.ensures)
    (ap graphs_at c.in_ok-push.ensures.items ∙ map-append _ c.dimensions.graphs.items (c.graph.result ∷ [])
    ∙ ap (λ (gs : List Graph). gs ++ c.graph.result.now ∷ []) c.dimensions.invariant)

pub returns : goal.returns
returns c =
    let schemas = schemas_of c.args.cube.now in
    let all : length schemas ≤ c.dimensions.k = omega (arith, c.len-k-end.ensures.count) in
    graphs_all schemas c.dimensions.k (graphs_at c.dimensions.graphs.items) all c.dimensions.invariant
