use Rattle.std.proofs.Common.{arith}
use Rattle.olap_cube.specs.Told.{tuple_of, tuples_in}
use Rattle.olap_cube_summ.proofs.TupleLemmas.{are_questions}
use Rattle.olap_cube_summ.proofs.questions.questions.Goals as goal

pub returns : goal.returns
returns c = are_questions (tuple_of c.args.target.now) (tuples_in c.args.sources.now) c.args.dimensions c.dimensions.i
    c.dimensions.questions.items c.requires.target c.requires.sources
    (let a = c.dimensions-test.false in let b = c.dimensions.auto.i-end in omega arith) c.dimensions.invariant.count
    c.dimensions.invariant.targets c.dimensions.invariant.columns
