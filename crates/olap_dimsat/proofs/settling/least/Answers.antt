use Rattle.std.proofs.Common.{refl, ◌∙◌, arith}
use Rattle.olap_clauses.specs.Engines.{trail_of}
use Rattle.olap_frozen.specs.Leaves.{chosen_of}
use Rattle.olap_dimsat.{proofs.SettleLemmas.{least_of_places, pinned_start}, specs.Asking.task_of}
use Rattle.olap_dimsat.proofs.settling.least.Goals as goal

pub returns-clause-some : goal.returns-clause-some
returns-clause-some c = λ _.
    let new = c.settle_from.new.best in
    least_of_places (task_of c.args.a.now) (chosen_of new.edges new.names) c.requires.suited.task
    c.settle_from.ensures.one
    (λ p h. c.settle_from.ensures.least p (omega arith) h)

pub returns-then-not-exists-clause-none : goal.returns-then-not-exists-clause-none
returns-then-not-exists-clause-none c = λ _ f one.
    let w = c.requires.ready f one in
    c.if-not-exists.ensures.none refl f w.0 one w.1
    (rw c.requires.empty tt)

pub returns-then-not-exists-clause-suited : goal.returns-then-not-exists-clause-suited
returns-then-not-exists-clause-suited c = c.exists.ensures.suited

pub settle_from-requires : goal.settle_from-requires
settle_from-requires c =
    let t = task_of c.args.a.now in
    let s = c.exists.ensures.suited in
    let l = c.exists.new.leaf.frozen in record {
      suited = record {
        task = s.task;
        frozen = rw c.swap.ensures.y_after c.requires.best;
        decided = s.decided;
        room = s.room;
        variables = s.variables;
      };
      ready = c.exists.ensures.ready;
      best = rw c.swap.ensures.x_after s.frozen;
      pinned = rw c.swap.ensures.x_after (pinned_start t (chosen_of l.edges l.names) (trail_of c.exists.new.engine)
          (c.exists.ensures.trail ∙ c.requires.empty) (c.if-not-exists.ensures.one refl));
    }

pub returns-clause-suited : goal.returns-clause-suited
returns-clause-suited c = c.settle_from.ensures.suited
