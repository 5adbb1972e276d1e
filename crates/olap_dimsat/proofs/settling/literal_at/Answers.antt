-- A name's literal is that of the constant before its index.
use Rattle.std.{proofs.Common.{◌≤◌, ◌+◌, ◌-◌, ◌∙◌, ap, arith}, specs.Prelude.{slice_index, true}}
use Rattle.olap_dimsat.{proofs.SettleLemmas.{says_edge, says_name}, specs.Asking.task_of, specs.Tasks.constant_count}
use Rattle.olap_dimsat.proofs.settling.literal_at.Goals as goal

pub name-requires-clause-inside : goal.name-requires-clause-inside
name-requires-clause-inside c =
    let t = task_of c.args.a.now in
    let e = c.edges-edges.ensures.count in
    let behind = c.if-p-edges.false in
    let at = c.args.p - c.edges-edges.result + 1 in
    let most : c.args.number ≤ constant_count t at = rw e (c.requires.number.name (omega arith)) in
    let from = c.from.ensures in
    let positive = c.requires.positive in
    let place = c.requires.place in
    let l = c.requires.task.laid.names at (c.from.result - 1) (omega arith) (omega arith) in
    let s = c.requires.task.laid.small in omega arith

pub returns-then-p-edges : goal.returns-then-p-edges
returns-then-p-edges c =
    let e = c.edges-edges.ensures.count in
    let inside = c.if-p-edges.true in
    record {
      says = says_edge (task_of c.args.a.now) c.args.p c.args.number c.on.result c.on.ensures (omega arith)
          c.requires.positive (c.requires.number.edge (omega arith));
    }

pub returns-else-p-edges : goal.returns-else-p-edges
returns-else-p-edges c =
    let t = task_of c.args.a.now in
    let e = c.edges-edges.ensures.count in
    let behind = c.if-p-edges.false in
    let place = c.requires.place in
    let at = c.args.p - c.edges-edges.result + 1 in
    let most : c.args.number ≤ constant_count t at = rw e (c.requires.number.name (omega arith)) in
    let literal = c.name.ensures
    ∙ ap (λ n. record { variable = slice_index t.layout.starts.items at + (n - 1); positive = true }) c.from.ensures in
    record {
      says = says_name t c.args.p at c.args.number c.name.result literal (omega arith) (λ z. omega arith) (omega arith)
          c.requires.positive most;
    }
