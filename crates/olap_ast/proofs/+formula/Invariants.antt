-- What is left to drop is no deeper than the whole list.
use Rattle.std.proofs.Common.{◌≤◌}
use Rattle.olap_ast.specs.declared.formulas.Terms.{size-Terms}
use Rattle.olap_ast.proofs.+formula.Given as goal

abbrev pub invariant-formulas::Terms::drop-loop-self : goal.invariant-formulas::Terms::drop-loop-self
invariant-formulas::Terms::drop-loop-self l = size-Terms l.self ≤ size-Terms l.initial.self
