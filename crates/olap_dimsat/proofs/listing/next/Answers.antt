-- The last branch at which there is more is where the next one differs first.
use Rattle.std.proofs.Common.{refl, ◌∙◌, arith}
use Rattle.olap_clauses.specs.Engines.{trail_of}
use Rattle.olap_frozen.specs.Leaves.{chosen_of}
use Rattle.olap_dimsat.proofs.BranchLemmas.{branches_left, last_mark, last_pinned, last_place, no_branches, none_case, risen_next, risen_open}
use Rattle.olap_dimsat.{proofs.WitnessLemmas.ready_still, specs.Asking.task_of}
use Rattle.olap_dimsat.proofs.listing.next.Goals as goal

pub branches-init : goal.branches-init
branches-init c = record {
  branches = c.requires.branches;
  best = refl;
  suited = c.requires.suited;
  ready = c.requires.ready;
}

pub rise-requires-clause-ready : goal.rise-requires-clause-ready
rise-requires-clause-ready c =
    ready_still (task_of c.args.a.now) c.branches.engine c.undo.new.self c.branches.invariant.ready
    (λ v m a. c.undo.ensures.admits v a)

pub rise-requires-clause-pinned : goal.rise-requires-clause-pinned
rise-requires-clause-pinned c =
    let t = task_of c.args.a.now in
    let w = chosen_of c.args.best.now.edges c.args.best.now.names in
    let ss = trail_of c.branches.engine in
    let all = rw c.in-Some.ensures.items at i.branches in
    rw i.best (rw c.undo.ensures.trail (last_pinned t c.args.apart w ss c.pop.new.self.items b all))
  where
    open c use {branches.invariant as i, in-Some.last as b}

pub rise-requires-clause-fits : goal.rise-requires-clause-fits
rise-requires-clause-fits c =
    let t = task_of c.args.a.now in
    let w = chosen_of c.args.best.now.edges c.args.best.now.names in
    let ss = trail_of c.branches.engine in
    let all = rw c.in-Some.ensures.items at c.branches.invariant.branches in
    let l = last_place t c.args.apart w ss c.pop.new.self.items c.in-Some.last all in
    let f = c.ranges.apart.fits in omega arith

pub returns-then-rise-clause-some : goal.returns-then-rise-clause-some
returns-then-rise-clause-some c =
    let t = task_of c.args.a.now in
    let w = chosen_of c.args.best.now.edges c.args.best.now.names in
    let y = chosen_of c.rise.new.best.edges c.rise.new.best.names in
    let ss = trail_of c.branches.engine in
    let all = rw c.in-Some.ensures.items at i.branches in
    risen_next t c.args.apart w ss c.pop.new.self.items b all y c.requires.one c.requires.places
    (rw (← i.best) (c.if-rise.ensures.some refl))
  where
    open c use {branches.invariant as i, in-Some.last as b}

pub returns-then-rise-clause-branches : goal.returns-then-rise-clause-branches
returns-then-rise-clause-branches c =
    let t = task_of c.args.a.now in
    let w = chosen_of c.args.best.now.edges c.args.best.now.names in
    let y = chosen_of c.rise.new.best.edges c.rise.new.best.names in
    let ss = trail_of c.branches.engine in
    let ts = trail_of c.rise.new.engine in
    let all = rw c.in-Some.ensures.items at i.branches in
    let longer = rw c.undo.ensures.trail at (c.if-rise.ensures.longer refl) in
    rw (c.undo-then-rise.ensures.trail ∙ last_mark t c.args.apart w ss rest b all ts longer)
    (risen_open t c.args.apart w ss rest b all y
    (rw (← i.best) (c.if-rise.ensures.some refl)))
  where
    open c use {branches.invariant as i, pop.new.self.items as rest, in-Some.last as b}

pub returns-then-rise-clause-ready : goal.returns-then-rise-clause-ready
returns-then-rise-clause-ready c =
    ready_still (task_of c.args.a.now) c.rise.new.engine c.undo-then-rise.new.self c.rise.ensures.ready
    (λ v m a. c.undo-then-rise.ensures.admits v a)

pub branches-preserved : goal.branches-preserved
branches-preserved c =
    let t = task_of c.args.a.now in
    let w = chosen_of c.args.best.now.edges c.args.best.now.names in
    let ss = trail_of c.branches.engine in
    let all = rw c.in-Some.ensures.items at i.branches in record {
      branches = rw (r.trail refl ∙ c.undo.ensures.trail) (branches_left t c.args.apart w ss rest b all
          (rw (← i.best) (r.none refl)));
      best = r.stays refl ∙ i.best;
      suited = c.rise.ensures.suited;
      ready = c.rise.ensures.ready;
    }
  where
    open c use {branches.invariant as i, pop.new.self.items as rest, in-Some.last as b, if-rise.ensures as r}

pub returns-clause-none : goal.returns-clause-none
returns-clause-none c = λ e.
    let n = none_case c.pop.result _ _ c.in_default.not-Some c.pop.ensures.cases in
    let o = c.branches.branches.ok in
    no_branches (task_of c.args.a.now) c.args.apart (chosen_of c.args.best.now.edges c.args.best.now.names)
    (trail_of c.branches.engine) c.branches.branches.items (let m = n.0 in omega arith) c.requires.one
    c.branches.invariant.branches
