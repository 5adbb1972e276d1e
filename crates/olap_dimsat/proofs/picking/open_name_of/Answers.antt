use Rattle.std.proofs.Common.{◌-◌, ◌<◌, refl, ap, arith}
use Rattle.olap_pool.specs.declared.literals.Lit.{Lit}
use Rattle.olap_dimsat.specs.{Asking.task_of, Tasks.constant_count}
use Rattle.olap_dimsat.proofs.picking.open_name_of.Goals as goal

pub name-name-requires-clause-inside : goal.name-name-requires-clause-inside
name-name-requires-clause-inside c =
    let t = task_of c.args.a.now in
    let test = c.indexes-test.true in
    let count = c.names-i-end.ensures.count in
    let above = c.indexes.auto.i in
    let from = c.from.ensures in
    let within : c.from.result - 1 < constant_count t c.args.c.0 = omega arith in
    let l = c.requires.task.laid.names c.args.c.0 (c.from.result - 1) c.requires.category within in
    let s = c.requires.task.laid.small in omega arith

pub returns-in-Unknown : goal.returns-in-Unknown
returns-in-Unknown c =
    let t = task_of c.args.a.now in
    let test = c.indexes-test.true in
    let count = c.names-i-end.ensures.count in
    let above = c.indexes.auto.i in
    let from = c.from.ensures in
    let within : c.from.result - 1 < constant_count t c.args.c.0 = omega arith in
    let l = c.requires.task.laid.names c.args.c.0 (c.from.result - 1) c.requires.category within in
    let e = ap (λ (x : Lit). x.variable) c.name-name.ensures in
    let n = c.requires.variables in
    rw c.negated.ensures (c.in-Unknown.ensures.open refl (omega arith))
