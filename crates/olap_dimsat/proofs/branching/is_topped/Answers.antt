-- Each greater number is refuted.
use Rattle.std.proofs.Common.{◌+◌, inl, inr, arith}
use Rattle.olap_frozen.specs.Leaves.{chosen_of}
use Rattle.olap_dimsat.{proofs.BranchLemmas.topped, specs.Asking.task_of}
use Rattle.olap_base.proofs.GeneralLemmas.{below_or_same}
use Rattle.olap_dimsat.proofs.branching.is_topped.Goals as goal

pub numbers-init : goal.numbers-init
numbers-init c = λ x l h. absurd (omega arith)

pub is_refuted-requires-clause-number : goal.is_refuted-requires-clause-number
is_refuted-requires-clause-number c =
    let h = c.numbers-test.true in c.most_at-most.ensures.in_range (c.numbers.x + 1) (omega arith)

pub numbers-preserved : goal.numbers-preserved
numbers-preserved c = λ x l h. elim (below_or_same x (c.numbers.x + 1) (omega arith)) [
  | inl b ↦ c.numbers.invariant x l (omega arith)
  | inr e ↦ rw e (c.is_refuted.ensures c.if-not-is_refuted.false)
]

pub returns : goal.returns
returns c = λ _.
    topped (task_of c.args.a.now) c.args.p c.number_at-number.result c.most_at-most.result
    (chosen_of c.args.best.now.edges c.args.best.now.names) c.args.trail.now c.requires.place
    c.number_at-number.ensures.number c.most_at-most.ensures.most
    (λ x l h. c.numbers.invariant x l (let b = c.numbers-test.false in omega arith))
