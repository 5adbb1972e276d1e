use Rattle.std.proofs.Common.{◌-◌, ◌<◌, ap, arith}
use Rattle.olap_pool.specs.declared.literals.Lit.{Lit}
use Rattle.olap_dimsat.specs.{Asking.task_of, Tasks.constant_count}
use Rattle.olap_dimsat.proofs.fitting.end_of.Goals as goal

pub name-requires-clause-inside : goal.name-requires-clause-inside
name-requires-clause-inside c =
    let count = c.names-last.ensures.count in
    let some = c.if-last-eq0.false in
    let from = c.from.ensures in
    let within : c.from.result - 1 < constant_count (task_of c.args.a.now) c.args.c.0 = omega arith in
    let last = c.requires.task.laid.names c.args.c.0 (c.from.result - 1) c.requires.category within in
    let small = c.requires.task.laid.small in
    omega arith

pub overflow_add-result : goal.overflow_add-result
overflow_add-result c =
    let count = c.names-last.ensures.count in
    let some = c.if-last-eq0.false in
    let from = c.from.ensures in
    let within : c.from.result - 1 < constant_count (task_of c.args.a.now) c.args.c.0 = omega arith in
    let last = c.requires.task.laid.names c.args.c.0 (c.from.result - 1) c.requires.category within in
    let small = c.requires.task.laid.small in
    let is = ap (λ (x : Lit). x.variable) c.name.ensures in
    omega arith
