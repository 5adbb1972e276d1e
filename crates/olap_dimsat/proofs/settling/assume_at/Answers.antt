-- At an edge's place the literal is the edge's; after the edges it is the category's name that is decided.
use Rattle.std.proofs.Common.{◌≡◌, ◌+◌, ◌-◌, ◌<◌, length, ap, sym, ◌∙◌, arith}
use Rattle.olap_pool.specs.declared.literals.Lit.{Lit}
use Rattle.olap_dimsat.{proofs.SettleLemmas.{bit, bit_of_one, code_edge, same_bit}, specs.Asking.task_of}
use Rattle.olap_dimsat.proofs.settling.assume_at.Goals as goal

pub returns-then-p-edges-clause-yes : goal.returns-then-p-edges-clause-yes
returns-then-p-edges-clause-yes c = λ e f v one r.
    let n = c.edges-edges.ensures.count in
    let b = c.if-p-edges.true in
    let edge : c.args.p < length c.args.a.now.question.graph.now.edges = omega arith in
    let val = ap v (ap (λ (x : Lit). x.variable) c.on-on.ensures) ∙ r.on c.args.p edge in
    let code = code_edge (task_of c.args.a.now) f c.args.p one edge in
    let own = bit_of_one c.args.x (c.requires.number.edge edge) in (
      λ a. let b = (c.assume.ensures.yes e f v one r).0 a in (b.0, code ∙ ap bit (sym val ∙ b.1) ∙ own),
      λ d. (c.assume.ensures.yes e f v one r).1 (d.0, val ∙ same_bit _ _ (sym code ∙ d.1 ∙ sym own)),
    )

pub returns-then-p-edges-clause-no : goal.returns-then-p-edges-clause-no
returns-then-p-edges-clause-no c = λ e f v one r a q.
    let n = c.edges-edges.ensures.count in
    let b = c.if-p-edges.true in
    let edge : c.args.p < length c.args.a.now.question.graph.now.edges = omega arith in
    let val = ap v (ap (λ (x : Lit). x.variable) c.on-on.ensures) ∙ r.on c.args.p edge in
    let code = code_edge (task_of c.args.a.now) f c.args.p one edge in
    let own = bit_of_one c.args.x (c.requires.number.edge edge) in
    c.assume.ensures.no e f v one r a (val ∙ same_bit _ _ (sym code ∙ q ∙ sym own))

pub returns-else-p-edges-clause-yes : goal.returns-else-p-edges-clause-yes
returns-else-p-edges-clause-yes c = λ e.
    let n = c.edges-edges.ensures.count in
    let b = c.if-p-edges.false in
    let t = task_of c.args.a.now in
    let is : length c.args.a.now.question.graph.now.edges + (c.args.p - c.edges-edges.result + 1) - 1 ≡ c.args.p =
    omega arith in
    rw (← is) (c.assume_name.ensures.yes e)

pub returns-else-p-edges-clause-no : goal.returns-else-p-edges-clause-no
returns-else-p-edges-clause-no c = λ e.
    let n = c.edges-edges.ensures.count in
    let b = c.if-p-edges.false in
    let t = task_of c.args.a.now in
    let is : length c.args.a.now.question.graph.now.edges + (c.args.p - c.edges-edges.result + 1) - 1 ≡ c.args.p =
    omega arith in
    rw (← is) (c.assume_name.ensures.no e)
