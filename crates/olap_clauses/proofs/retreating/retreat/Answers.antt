-- A branch less, the other side of one, or the end.
use Rattle.std.proofs.Common.{refl, sym, ◌∙◌, subst}
use Rattle.olap_clauses.proofs.OutcomeLemmas.{true_is_not_false}
use Rattle.olap_clauses.proofs.RetreatLemmas.{retreat_start, retreat_more, goes_on, goes_over, goes_off, left_cut, cut_more, front_is}
use Rattle.olap_clauses.specs.Standing.{Agrees}
use Rattle.olap_clauses.proofs.retreating.retreat.Goals as goal

pub branches-init : goal.branches-init
branches-init c = retreat_start c.args.pool.now c.args.floor c.args.trail.now c.requires

pub branches-preserved : goal.branches-preserved
branches-preserved c = retreat_more c.back.new.trail c.branches.invariant (left_cut c.in-Some.ensures.back)
    c.in-Some.ensures.variables c.in-Broken.ensures

pub returns-in-Forces : goal.returns-in-Forces
returns-in-Forces c =
    let g = goes_on c.jump.new.trail c.push.new.self _ c.branches.invariant
    (cut_more (left_cut c.in-Some.ensures.back) c.jump.ensures.off)
    (c.jump.ensures.variables ∙ c.in-Some.ensures.variables) c.push.ensures.steps c.push.ensures.variables
    c.reason_of.ensures (λ v a n h. c.jump.ensures.forces v a.clauses h) in record {
      on = λ e. g.on;
      off = λ e. absurd (true_is_not_false e);
      front = g.front;
      floor = g.above;
      variables = g.variables;
      less = λ e. g.less;
    }

pub returns-in-Open : goal.returns-in-Open
returns-in-Open c =
    let g = goes_over c.back.new.trail c.push-in-Open.new.self _ c.branches.invariant
    c.in-Some.ensures.back c.in-Some.ensures.variables
    c.push-in-Open.ensures.steps c.push-in-Open.ensures.variables refl c.negated.ensures in
    record {
      on = λ e. g.on;
      off = λ e. absurd (true_is_not_false e);
      front = g.front;
      floor = g.above;
      variables = g.variables;
      less = λ e. g.less;
    }

pub returns-in-None-clause-off : goal.returns-in-None-clause-off
returns-in-None-clause-off c =
    let b = c.in-None.ensures.back in
    λ e v a n h. goes_off new r b.0 b.1 v a n (subst (λ ss. Agrees v ss) (sym (front_is new r b.0 b.1)) h)
  where
    open c use {branches.invariant as r, back.new.trail as new}
