use Rattle.std.proofs.Common.{sym, ◌∙◌, arith}
use Rattle.olap_base.proofs.ListLemmas.{Contains-map}
use Rattle.olap_ast.specs.Trees.{constraint_of}
use Rattle.olap_dimsat.{proofs.KnowingLemmas.{broken, broken_none, false_none}, specs.Asking.task_of}
use Rattle.olap_dimsat.proofs.cutting.is_cut.Goals as goal

pub returns-then-is_false : goal.returns-then-is_false
returns-then-is_false c = λ _.
    let t = task_of c.args.a.now in
    let item = c.constraint-item.result in
    broken_none t c.args.trail.now c.requires.task (constraint_of item)
    (Contains-map constraint_of c.args.a.now.question.constraints.now item
    (c.constraints.constraint-index, omega arith, sym c.constraint-item.is))
    (broken t c.args.trail.now c.args.decided.now c.requires (constraint_of item)
    (sym c.presence.ensures ∙ c.in-Yes.is) (c.is_false.ensures c.if-is_false.true))

pub returns : goal.returns
returns c = λ e. false_none (task_of c.args.a.now) c.args.trail.now c.requires.task (c.is_false-2.ensures e)
