-- No number wraps.
use Rattle.std.proofs.{Common.{◌≡◌, ◌-◌, ◌-ℤ◌, arith, w64, to_z, of_z}, lemmas.Int.{ints, to_z-of_z}}
use mir.Syntax.{w128}
use Rattle.olap_delta.proofs.joining.without.Goals as goal

pub overflow_sub-result-2 : goal.overflow_sub-result-2
overflow_sub-result-2 c =
    let a = (c.requires.row 0).sum_from in let b = (c.requires.row 0).sum_to in let n = (c.requires.row 0).few in
    let d = c.requires.values.up_to.sum_from in let e = c.requires.values.up_to.sum_to in let f = c.requires.few in
    omega (arith, ints)

pub returns : goal.returns
returns c =
    let a = (c.requires.row 0).sum_from in let b = (c.requires.row 0).sum_to in let n = (c.requires.row 0).few in
    let d = c.requires.values.up_to.sum_from in let e = c.requires.values.up_to.sum_to in let f = c.requires.few in
    let l = to_z-of_z w64 c.args.row.least (c.requires.row 0).least in
    let g = to_z-of_z w64 c.args.row.greatest (c.requires.row 0).greatest in
    let sum : to_z w128 (of_z w128 (to_z w128 (of_z w128 c.args.row.sum) -ℤ to_z w128 (of_z w128 c.args.lot.sum)))
    ≡ c.args.row.sum -ℤ c.args.lot.sum = omega (arith, ints) in
    λ i. record { count = c.args.row.count - c.args.lot.count; sum = sum i; least = l i; greatest = g i }
