-- A place is kept, and is a branch where there may be more.
use Rattle.std.proofs.Common.{length, refl, ap, ◌∙◌}
use Rattle.olap_clauses.specs.{Engines.trail_of, Trails.steps_of, declared.trails.Trail.Trail}
use Rattle.olap_frozen.specs.Leaves.{chosen_of}
use Rattle.olap_dimsat.{proofs.BranchLemmas.{branches_more, branches_past, none_more_topped}, specs.Asking.task_of}
use Rattle.olap_dimsat.specs.declared.branching.Branch.{Branch}
use Rattle.olap_dimsat.proofs.branching.branch_at.Goals as goal

pub is_topped-known-requires : goal.is_topped-known-requires
is_topped-known-requires c = record {
  task = c.requires.task;
  best = c.requires.best;
  one = c.requires.pinned.one;
  place = c.requires.place;
}

pub pin-requires : goal.pin-requires
pin-requires c = record {
  task = c.requires.task;
  place = c.requires.place;
  ready = c.requires.ready;
  best = c.requires.best;
  pinned = c.requires.pinned;
  variables = c.requires.variables;
}

pub returns-then-known-clause-branches : goal.returns-then-known-clause-branches
returns-then-known-clause-branches c =
    let t = task_of c.args.a.now in
    let w = chosen_of c.args.best.now.edges c.args.best.now.names in
    branches_past t c.args.p w (trail_of c.args.engine.now) (trail_of c.pin.new.engine) c.args.branches.now.items
    c.requires.branches c.pin.ensures.longer
    (none_more_topped t c.args.p w c.args.engine.now c.requires.ready c.requires.pinned
    (rw (← c.trail.ensures) (c.is_topped-known.ensures c.if-known.true)))

pub returns-clause-branches : goal.returns-clause-branches
returns-clause-branches c =
    let t = task_of c.args.a.now in
    let w = chosen_of c.args.best.now.edges c.args.best.now.names in
    let ts = trail_of c.pin.new.engine in
    let b : Branch = record { place = c.args.p; mark = c.len-mark.result } in
    rw c.in_ok-push.ensures.items
    (branches_more t c.args.p w (trail_of c.args.engine.now) ts c.args.branches.now.items b c.requires.branches
    c.pin.ensures.longer c.requires.pinned refl
    (c.len-mark.ensures ∙ ap (λ (x : Trail). length (steps_of x)) c.trail-2.ensures))
