-- What was supposed stands before the search, and what is meant stays admitted.
use Rattle.std.proofs.Common.{◌∙◌}
use Rattle.olap_dimsat.{proofs.WitnessLemmas.ready_still, specs.Asking.task_of}
use Rattle.olap_dimsat.proofs.aiming.look.Goals as goal

pub returns-then-not-suppose_all-clause-ready : goal.returns-then-not-suppose_all-clause-ready
returns-then-not-suppose_all-clause-ready c =
    ready_still (task_of c.args.a.now) c.args.engine.now c.suppose_all.new.engine c.requires.ready
    (λ v m a. c.suppose_all.ensures.admits v a)

pub returns-then-not-suppose_all-clause-suited : goal.returns-then-not-suppose_all-clause-suited
returns-then-not-suppose_all-clause-suited c =
    let s = c.requires.suited in record {
      task = s.task;
      frozen = s.frozen;
      decided = s.decided;
      room = s.room;
      variables = c.suppose_all.ensures.variables ∙ s.variables;
    }

pub search-requires : goal.search-requires
search-requires c =
    let s = c.requires.suited in record {
      suits = record {
        task = s.task;
        frozen = s.frozen;
        decided = s.decided;
        room = s.room;
        variables = c.suppose_all.ensures.variables ∙ s.variables;
      };
    }

pub returns-in-Found-clause-one : goal.returns-in-Found-clause-one
returns-in-Found-clause-one c = λ _. (c.search.ensures.found c.in-Found.is).1.one

pub returns-in-Found-clause-ready : goal.returns-in-Found-clause-ready
returns-in-Found-clause-ready c =
    ready_still (task_of c.args.a.now) c.args.engine.now c.search.new.self c.requires.ready
    (λ v m a. c.search.ensures.admits v m (c.suppose_all.ensures.admits v a))

pub returns-in-Nothing-clause-ready : goal.returns-in-Nothing-clause-ready
returns-in-Nothing-clause-ready c =
    ready_still (task_of c.args.a.now) c.args.engine.now c.search.new.self c.requires.ready
    (λ v m a. c.search.ensures.admits v m (c.suppose_all.ensures.admits v a))

pub returns-in-Stop-clause-ready : goal.returns-in-Stop-clause-ready
returns-in-Stop-clause-ready c =
    ready_still (task_of c.args.a.now) c.args.engine.now c.search.new.self c.requires.ready
    (λ v m a. c.search.ensures.admits v m (c.suppose_all.ensures.admits v a))
