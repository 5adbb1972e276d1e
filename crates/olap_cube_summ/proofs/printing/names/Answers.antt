-- One name more.
use Rattle.std.proofs.Common.{◌<◌, ℕ, List, length, get_or, map, sym, ap, ◌∙◌, arith}
use Rattle.std.{proofs.lemmas.List.{get_or-map, take_all}, specs.List.join_with_byte}
use Rattle.olap_ast.specs.Schema.{Schema}
use Rattle.olap_base.specs.{Graph.Graph, declared.ids.CatId.CatId}
use Rattle.olap_cube.specs.CubeSummarizable.{graphs_of}
use Rattle.olap_cube_summ.proofs.{PlaceLemmas.{category_at, counted}, TextLemmas.{join_more, name_at, names_count}}
use Rattle.olap_cube_summ.specs.{Dimensions.{no_schema, schemas_of}, Telling.names_of}
use Rattle.olap_graph.specs.Lookups.{name_of_category}
use Rattle.olap_cube_summ.proofs.printing.names.Goals as goal

abbrev numbers : List CatId → List ℕ
numbers cs = map (λ (c : CatId). c.0) cs

pub bounds-categories-i : goal.bounds-categories-i
bounds-categories-i c =
    omega (arith, c.len-i-end.ensures.count, counted (schemas_of c.args.cube.now) c.args.categories.now c.requires)

pub name-requires : goal.name-requires
name-requires c =
    let ss = schemas_of c.args.cube.now in
    let l : i < length ss = omega (arith, c.len-i-end.ensures.count) in
    let m : i < length cs = omega (arith, c.len-i-end.ensures.count, counted ss cs c.requires) in
    rw (c.graph-graph.ensures, ap (λ (s : Schema). s.graph) c.schema.ensures)
    (rw (get_or-map (λ (c : CatId). c.0) cs i (record { 0 = 0 }) 0 m) at (category_at ss (numbers cs) i c.requires l))
  where
    open c use {args.categories.now as cs, dimensions.i}

pub dimensions-preserved : goal.dimensions-preserved
dimensions-preserved c =
    let ss = schemas_of c.args.cube.now in
    let names = names_of (graphs_of ss) (numbers cs) in
    let l : i < length ss = omega (arith, c.len-i-end.ensures.count) in
    let m : i < length cs = omega (arith, c.len-i-end.ensures.count, counted ss cs c.requires) in
    let n : i < length names = omega (arith, c.len-i-end.ensures.count, names_count ss (numbers cs) c.requires) in
    join_more names i c.bytes.result.now c.dimensions.names.items c.push_name.new.out.items n
    (name_at ss (numbers cs) i c.requires l
    ∙ ap (name_of_category (get_or ss i no_schema).graph) (get_or-map (λ (c : CatId). c.0) cs i (record { 0 = 0 }) 0 m)
    ∙ ap (λ (g : Graph). name_of_category g (get_or cs i (record { 0 = 0 })).0)
    (sym (c.graph-graph.ensures ∙ ap (λ (s : Schema). s.graph) c.schema.ensures))
    ∙ sym (c.bytes.ensures ∙ c.name.ensures))
    c.dimensions.invariant c.in_ok-push_name.ensures
  where
    open c use {args.categories.now as cs, dimensions.i}

pub returns : goal.returns
returns c =
    let ss = schemas_of c.args.cube.now in
    c.dimensions.invariant
    ∙ ap (join_with_byte 44) (take_all c.dimensions.i (names_of (graphs_of ss) (numbers c.args.categories.now))
    (omega (arith, c.len-i-end.ensures.count, names_count ss (numbers c.args.categories.now) c.requires)))
