-- The facts of a text are those in the file, and a text with a fault is refused.
use Rattle.std.proofs.Common.{◌∙◌, arith}
use Rattle.olap_cube_views.specs.{Dimensions.{categories_in, instances_in}, Seen.cube_view_of}
use Rattle.olap_cube_summ.specs.Dimensions.{schemas_of}
use Rattle.olap_cubes.proofs.RollingLemmas.{facts-out, fault-out}
use Rattle.olap_cubes.proofs.viewing.view_in.Goals as goal

pub returns-in-Ok-rolled_up-clause-step : goal.returns-in-Ok-rolled_up-clause-step
returns-in-Ok-rolled_up-clause-step g c =
    let ok = c.in-Ok-rolled_up in
    facts-out (schemas_of c.args.cube.now) (instances_in c.args.columns.now) c.args.file.now
    (g.L.Library.rest c.open_file.new.self) c.in-Ok.ensures.opened
    (c.rolled_up.ensures.kept.contents ∙ c.open_file.ensures.contents)
    (record {
      faults = omega (arith, c.open_file.ensures.cause.later, c.rolled_up.ensures.later);
      sure = c.rolled_up.ensures.kept.sure ∙ c.open_file.ensures.sure;
    })
    c.requires.made (categories_in c.args.columns.now) (cube_view_of ok.view) ok.ensures.view

pub returns-in-Err-Refused-Kind-clause-step : goal.returns-in-Err-Refused-Kind-clause-step
returns-in-Err-Refused-Kind-clause-step g c =
    let e = c.in-Err-Refused-Kind in
    let so = rw (e.field-0-is, e.field-0-0-is) at e.ensures.fault in
    fault-out (schemas_of c.args.cube.now) (instances_in c.args.columns.now) c.args.file.now
    (g.L.Library.rest c.open_file.new.self) c.in-Ok.ensures.opened
    (c.rolled_up.ensures.kept.contents ∙ c.open_file.ensures.contents)
    (record {
      faults = omega (arith, c.open_file.ensures.cause.later, c.rolled_up.ensures.later);
      sure = c.rolled_up.ensures.kept.sure ∙ c.open_file.ensures.sure;
    })
    c.requires.made e.fault so c.refuse_part.result (rw c.name.ensures at c.refuse_part.ensures.refused)
