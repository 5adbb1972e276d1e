-- What follows from the literal leaves the others of its set false.
use Rattle.std.proofs.Common.{arith}
use Rattle.olap_parities.proofs.entries.is_alone.Goals as goal

pub returns : goal.returns
returns c = λ r v t knows. record {
  within = omega arith;
  apart = λ holds. c.is_apart.ensures r v (c.assume.ensures c.if-not-assume.false v t knows holds);
}
