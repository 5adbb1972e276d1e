-- What is refused agrees with no frozen dimension, and what is decided is open.
use Rattle.std.proofs.Common.{refl}
use Rattle.olap_dimsat.proofs.judging.AskerJudgeLeaf.judge.Goals as goal

pub returns-then-not-follow-clause-right : goal.returns-then-not-follow-clause-right
returns-then-not-follow-clause-right c = λ v m a. c.if-not-follow.ensures.none refl m.0 v m.1 m.2 a

pub returns-then-not-follow-clause-suits : goal.returns-then-not-follow-clause-suits
returns-then-not-follow-clause-suits c = c.follow.ensures.suited

pub is_cut-requires : goal.is_cut-requires
is_cut-requires c =
    let s = c.follow.ensures.suited in record {
      task = s.task;
      of = s.decided;
      read = c.follow.ensures.read;
    }

pub returns-then-is_cut-clause-right : goal.returns-then-is_cut-clause-right
returns-then-is_cut-clause-right c = λ v m a. c.is_cut.ensures c.if-is_cut.true m.0 v m.1 m.2 a

pub returns-then-is_cut-clause-suits : goal.returns-then-is_cut-clause-suits
returns-then-is_cut-clause-suits c = c.follow.ensures.suited

pub pick-requires-clause-task : goal.pick-requires-clause-task
pick-requires-clause-task c = c.follow.ensures.suited.task

pub pick-requires-clause-variables : goal.pick-requires-clause-variables
pick-requires-clause-variables c = c.follow.ensures.suited.variables

pub returns-in-Some-clause-suits : goal.returns-in-Some-clause-suits
returns-in-Some-clause-suits c = c.follow.ensures.suited

pub read-requires-clause-task : goal.read-requires-clause-task
read-requires-clause-task c = c.follow.ensures.suited.task

pub read-requires-clause-sizes : goal.read-requires-clause-sizes
read-requires-clause-sizes c = c.follow.ensures.suited.frozen

pub read-requires-clause-variables : goal.read-requires-clause-variables
read-requires-clause-variables c = c.follow.ensures.suited.variables

pub returns-in-Err-clause-suits : goal.returns-in-Err-clause-suits
returns-in-Err-clause-suits c =
    let s = c.follow.ensures.suited in record {
      task = s.task;
      frozen = c.read.ensures.sizes;
      decided = s.decided;
      room = s.room;
      variables = s.variables;
    }

pub suits_all-requires-clause-task : goal.suits_all-requires-clause-task
suits_all-requires-clause-task c = c.follow.ensures.suited.task

pub suits_all-requires-clause-sizes : goal.suits_all-requires-clause-sizes
suits_all-requires-clause-sizes c = c.read.ensures.sizes

pub returns-then-suits_all-clause-suits : goal.returns-then-suits_all-clause-suits
returns-then-suits_all-clause-suits c =
    let s = c.follow.ensures.suited in record {
      task = s.task;
      frozen = c.read.ensures.sizes;
      decided = s.decided;
      room = c.is_frozen-is_one.ensures.room;
      variables = s.variables;
    }

pub returns-else-is_one-clause-suits : goal.returns-else-is_one-clause-suits
returns-else-is_one-clause-suits c =
    let s = c.follow.ensures.suited in record {
      task = s.task;
      frozen = c.read.ensures.sizes;
      decided = s.decided;
      room = c.is_frozen-is_one.ensures.room;
      variables = s.variables;
    }
