use Rattle.std.proofs.Common.{refl, arith}
use Rattle.olap_dimsat.{proofs.ReadLemmas.no_constant, specs.Asking.task_of, specs.Tasks.constant_count}
use Rattle.olap_dimsat.proofs.reading.read_name.Goals as goal

pub returns-clause-is : goal.returns-clause-is
returns-clause-is c = λ f v one r a.
    no_constant (task_of c.args.a.now) f c.args.c.0 (constant_count (task_of c.args.a.now) c.args.c.0) one
    c.requires.category refl
    (λ k h. c.indexes.invariant k (let t = c.indexes-test.false in let e = c.names-i-end.ensures.count in
    omega arith) f v one r a)
