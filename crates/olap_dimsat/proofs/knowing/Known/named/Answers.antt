use Rattle.std.{proofs.Common.{◌<◌, ℕ, Option, subst, arith}, specs.Prelude.IfSome}
use Rattle.olap_dimsat.specs.{Asking.task_of, Tasks.constant_count}
use Rattle.olap_dimsat.proofs.knowing.Known.named.Goals as goal

pub name-requires-clause-inside : goal.name-requires-clause-inside
name-requires-clause-inside c =
    let s = c.args.self.now in
    let n = constant_count (task_of s.asker.now) c.args.c.0 in
    let p : c.in-Some.j < n = subst (λ (o : Option ℕ). IfSome o (λ j. j < n)) c.in-Some.is c.requires.place in
    let l = s.laid.names c.args.c.0 c.in-Some.j c.requires.category p in
    let m = s.laid.small in omega arith
