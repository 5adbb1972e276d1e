-- One dimension more.
use Rattle.std.proofs.Common.{◌<◌, length, arith}
use Rattle.olap_cube_summ.proofs.PlaceLemmas.{drawn_all, drawn_more, found_count, found_here}
use Rattle.olap_cube_summ.specs.Dimensions.{schemas_of}
use Rattle.olap_schema.specs.Schemas.{schema_of}
use Rattle.olap_cube_summ.proofs.reaching.drawn_of_each.Goals as goal

pub bounds-founds-i : goal.bounds-founds-i
bounds-founds-i c =
    omega (arith, c.len-i-end.ensures.count, found_count (schemas_of c.args.cube.now) c.args.founds.now c.requires)

pub drawn-requires : goal.drawn-requires
drawn-requires c =
    found_here (schemas_of c.args.cube.now) c.args.founds.now c.dimensions.i (schema_of c.schema.result.now)
    c.index-founds-i.result c.requires (omega (arith, c.len-i-end.ensures.count)) c.schema.ensures c.index-founds-i.is

pub dimensions-preserved : goal.dimensions-preserved
dimensions-preserved c =
    let ss = schemas_of c.args.cube.now in
    let l : i < length ss = omega (arith, c.len-i-end.ensures.count) in
    let m : i < length fs = omega (arith, c.len-i-end.ensures.count, found_count ss fs c.requires) in
    rw c.in_ok-push.ensures.items (drawn_more ss fs c.dimensions.rooms.items i f c.in_ok-room.room l m
    c.dimensions.invariant (rw (c.schema.ensures, c.index-founds-i.is) at c.in_ok-room.ensures))
  where
    open c use {args.founds.now as fs, dimensions.i, index-founds-i.result as f}

pub returns : goal.returns
returns c =
    let ss = schemas_of c.args.cube.now in
    let fs = c.args.founds.now in
    drawn_all ss fs c.dimensions.rooms.items c.dimensions.i (omega (arith, c.len-i-end.ensures.count))
    (omega (arith, c.len-i-end.ensures.count, found_count ss fs c.requires)) c.dimensions.invariant
