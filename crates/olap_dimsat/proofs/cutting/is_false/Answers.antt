use Rattle.std.proofs.Common.{sym, ◌∙◌}
use Rattle.olap_ast.specs.Trees.{formula_of}
use Rattle.olap_dimsat.{proofs.KnowingLemmas.false_at, specs.Asking.task_of}
use Rattle.olap_dimsat.proofs.cutting.is_false.Goals as goal

pub returns-in-No : goal.returns-in-No
returns-in-No c = λ _. false_at (task_of c.args.known.now.asker.now) c.args.known.now.trail.now
    c.args.known.now.decided.now c.requires c.args.c.0
    (formula_of c.args.formula.now) (sym c.holds3.ensures ∙ c.in-No.is)
