-- One place after another.
use Rattle.std.proofs.Common.{◌≡◌, ◌∙◌, arith}
use Rattle.olap_clauses.specs.Engines.{trail_of}
use Rattle.olap_frozen.specs.Leaves.{chosen_of}
use Rattle.olap_dimsat.proofs.{BranchLemmas.branches_still, SettleLemmas.pinned_grown, WitnessLemmas.ready_still}
use Rattle.olap_dimsat.specs.Asking.{task_of}
use Rattle.olap_dimsat.proofs.branching.branch_from.Goals as goal

pub places-init : goal.places-init
places-init c =
    let t = task_of c.args.a.now in
    let w = chosen_of c.args.best.now.edges c.args.best.now.names in
    let ss = trail_of c.args.engine.now in
    let ts = trail_of c.force.new.self in
    let g = c.force.ensures in record {
      pinned = pinned_grown t c.args.from w ss ts g.grown c.requires.pinned;
      branches = branches_still t c.args.from w ss ts c.args.branches.now.items c.requires.branches g.longer;
      variables = g.variables;
      ready = ready_still t c.args.engine.now c.force.new.self c.requires.ready (λ v m a. g.admits v a);
    }

pub branch_at-requires : goal.branch_at-requires
branch_at-requires c =
    let i = c.places.invariant in record {
      task = c.requires.task;
      ready = i.ready;
      best = c.requires.best;
      place = c.requires.places c.places.p c.places-test.true;
      pinned = i.pinned;
      variables = i.variables ∙ c.requires.variables;
      branches = i.branches;
    }

pub places-preserved : goal.places-preserved
places-preserved c =
    let s = c.branch_at.ensures in record {
      pinned = s.pinned;
      branches = c.in_ok-branch_at.ensures.branches;
      variables = s.variables ∙ c.places.invariant.variables;
      ready = s.ready;
    }

pub returns-clause-branches : goal.returns-clause-branches
returns-clause-branches c =
    let e : c.places.p ≡ c.args.apart =
    let b = c.places-test.false in let u = c.places.auto.p-end in let f = c.requires.from in omega arith in
    rw (← e) c.places.invariant.branches
