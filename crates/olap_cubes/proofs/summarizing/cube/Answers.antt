use Rattle.std.{proofs.Common.{◌≡◌, ◌+◌, arith, length, sym}, proofs.lemmas.List.length-map, specs.String.string_bytes}
use Rattle.olap_order.{proofs.Stepping.{answered, ended, followed}, specs.Words.texts}
use Rattle.olap_cubes.proofs.summarizing.cube.Goals as goal

pub returns-in_err-cube : goal.returns-in_err-cube
returns-in_err-cube g c = record { judged = ended c.in_err-cube.ensures.step _ c.from_residual.ensures.1 }

pub returns : goal.returns
returns g c =
    let count : length c.args.schemas.now ≡ length (texts c.args.schemas.now) =
    sym (length-map c.args.schemas.now string_bytes) in
    let next : length c.args.schemas.now + 3 + 1 ≡ length (texts c.args.schemas.now) + 4 = omega (arith, count) in
    record {
      judged = followed c.in_ok-cube.ensures.step _
          (answered c.of_cube.result (rw count at (rw next at c.of_cube.ensures.replies)));
    }
