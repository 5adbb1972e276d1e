-- No number wraps.
use Rattle.std.proofs.{Common.{◌≡◌, ◌-◌, ◌-ℤ◌, arith, w64, to_z, of_z}, lemmas.Int.{ints, to_z-of_z}}
use mir.Syntax.{w128}
use Rattle.olap_delta.proofs.changes.without.Goals as goal

pub overflow_sub-result : goal.overflow_sub-result
overflow_sub-result c = let h = (c.requires 0).some in omega arith

pub overflow_sub-result-2 : goal.overflow_sub-result-2
overflow_sub-result-2 c =
    let a = (c.requires 0).sum_from in let b = (c.requires 0).sum_to in let f = c.ranges.value in
    let e = c.from.ensures in omega (arith, ints)

pub returns : goal.returns
returns c =
    let a = (c.requires 0).sum_from in let b = (c.requires 0).sum_to in let f = c.ranges.value in
    let e = c.from.ensures in
    let l = to_z-of_z w64 c.args.row.least (c.requires 0).least in
    let g = to_z-of_z w64 c.args.row.greatest (c.requires 0).greatest in
    let sum : to_z w128 (of_z w128 (to_z w128 (of_z w128 c.args.row.sum) -ℤ to_z w128 (of_z w128 c.from.result)))
    ≡ c.args.row.sum -ℤ c.args.value = omega (arith, ints) in
    λ i. record { count = c.args.row.count - 1; sum = sum i; least = l i; greatest = g i }
