-- A word that names no tuple ends the step, and so does one that names one of those before it.
use Rattle.std.proofs.Common.{codes, false, sym, true, ◌∙◌}
use Rattle.olap_ast.specs.Trees.{numbers_of}
use Rattle.olap_cube.specs.Told.{tuples_in}
use Rattle.olap_cube_summ.specs.Dimensions.{schemas_of}
use Rattle.olap_order.{proofs.Stepping.ends_both, specs.Steps.fault_text}
use Rattle.olap_cubes.proofs.TupleLemmas.{another_is, ended_plain, plain_refused}
use Rattle.olap_cubes.proofs.naming.another_at.Goals as goal

pub returns-in_err-categories-clause-step : goal.returns-in_err-categories-clause-step
returns-in_err-categories-clause-step c =
    ended_plain c.from_residual.result c.in_err-categories.field-0.0 c.from_residual.ensures.1
    (ends_both c.in_err-categories.ensures.step.ends _)

pub returns-then-is_among-clause-step : goal.returns-then-is_among-clause-step
returns-then-is_among-clause-step c =
    plain_refused _ (fault_text (codes "word") c.args.at (codes "DuplicateSource")) c.refuse_at.result
    (another_is (schemas_of c.args.cube.now) c.args.at (tuples_in c.args.earlier.now) c.args.word.now
    (numbers_of c.in_ok-categories.categories.items) true c.in_ok-categories.ensures.step.comes_out
    (rw c.deref.ensures.value at (sym c.is_among.ensures ∙ c.if-is_among.true))) c.refuse_at.ensures.refused

pub returns-clause-step : goal.returns-clause-step
returns-clause-step c = rw c.from_vec.ensures (record {
  comes_out = another_is (schemas_of c.args.cube.now) c.args.at (tuples_in c.args.earlier.now) c.args.word.now
      (numbers_of c.in_ok-categories.categories.items) false c.in_ok-categories.ensures.step.comes_out
      (rw c.deref.ensures.value at (sym c.is_among.ensures ∙ c.if-is_among.false));
  ends = tt;
})
