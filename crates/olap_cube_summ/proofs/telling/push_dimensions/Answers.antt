-- One dimension more.
use Rattle.std.proofs.Common.{◌≡◌, ◌+◌, ◌<◌, ◌++◌, length, get_or, ap, ◌∙◌, arith}
use Rattle.olap_ast.specs.Schema.{Schema}
use Rattle.olap_cube_summ.proofs.{PlaceLemmas.{found_count, found_here}, TextLemmas.{dimensions_all, dimensions_more}}
use Rattle.olap_cube_summ.specs.{CubeCexText.dimension_text, Dimensions.{no_schema, schemas_of}, Found.chosen_of}
use Rattle.olap_frozen.specs.declared.founding.Found.{Found}
use Rattle.olap_schema.specs.Schemas.{schema_of}
use Rattle.olap_cube_summ.proofs.telling.push_dimensions.Goals as goal

pub bounds-founds-i : goal.bounds-founds-i
bounds-founds-i c =
    omega (arith, c.len-i-end.ensures.count, found_count (schemas_of c.args.cube.now) c.args.founds.now c.requires)

pub push_dimension-requires : goal.push_dimension-requires
push_dimension-requires c =
    found_here (schemas_of c.args.cube.now) c.args.founds.now c.dimensions.i (schema_of c.schema.result.now)
    c.index-founds-i.result c.requires (omega (arith, c.len-i-end.ensures.count)) c.schema.ensures c.index-founds-i.is

pub dimensions-preserved : goal.dimensions-preserved
dimensions-preserved c =
    let ss = schemas_of c.args.cube.now in
    let l : i < length ss = omega (arith, c.len-i-end.ensures.count) in
    let m : i < length fs = omega (arith, c.len-i-end.ensures.count, found_count ss fs c.requires) in
    let here : dimension_text (i + 1) (schema_of c.schema.result.now) (chosen_of f)
    ≡ dimension_text (i + 1) (get_or ss i no_schema) (chosen_of (get_or fs i f)) =
    ap (λ (s : Schema). dimension_text (i + 1) s (chosen_of f)) c.schema.ensures
    ∙ ap (λ (h : Found). dimension_text (i + 1) (get_or ss i no_schema) (chosen_of h)) c.index-founds-i.is in
    dimensions_more ss fs i f c.args.out.now.items c.dimensions.out.items c.push_dimension.new.out.items l m
    c.dimensions.invariant (c.in_ok-push_dimension.ensures ∙ ap (λ t. c.dimensions.out.items ++ t) here)
  where
    open c use {args.founds.now as fs, dimensions.i, index-founds-i.result as f}

pub returns : goal.returns
returns c =
    let ss = schemas_of c.args.cube.now in
    let fs = c.args.founds.now in
    c.dimensions.invariant
    ∙ ap (λ t. c.args.out.now.items ++ t) (dimensions_all ss fs c.dimensions.i
    (omega (arith, c.len-i-end.ensures.count))
    (omega (arith, c.len-i-end.ensures.count, found_count ss fs c.requires)))
