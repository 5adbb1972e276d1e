use Rattle.std.proofs.Common.{refl}
use Rattle.olap_proof.proofs.{LeadingLemmas.{at_closed, at_still}, StageLemmas.{head_none, head_runs, place_none}}
use Rattle.olap_proof.specs.Asking.{names_in, question_in, schema_in}
use Rattle.olap_proof.proofs.stages.step.Goals as goal

pub returns-else-not-is_head : goal.returns-else-not-is_head
returns-else-not-is_head c = rw c.move_to.ensures (
  c.stage_from.ensures.stage,
  rw (c.in-Head.is, c.stage_from.ensures.open) (head_runs c.args.form (schema_in a) (question_in a) (names_in a)
      c.args.line.now (c.is_head.ensures.0 c.if-not-is_head.false)),
)
  where
    open c use {args.asked.now as a}

pub returns-then-not-is_head : goal.returns-then-not-is_head
returns-then-not-is_head c = λ left run.
    head_none c.args.form (schema_in a) (question_in a) (names_in a) c.args.line.now
    (λ e. let z = c.is_head.ensures.1 e in let n = c.if-not-is_head.true in cc) left (rw c.in-Head.is at run)
  where
    open c use {args.asked.now as a}

pub returns-in-Still : goal.returns-in-Still
returns-in-Still c =
    let advances = rw c.in-Still.is at c.in_ok-advance-in-Tree.ensures in
    rw c.in-Tree.is (at_still c.args.form c.args.asked.now b c.args.line.now
    (record { root = b.root; place = c.advance.new.place; choices = c.advance.new.choices }) advances refl
    (rw c.in-Tree.is at c.requires.stage))
  where
    open c use {in-Tree.branch as b}

pub returns-in-Closed : goal.returns-in-Closed
returns-in-Closed c =
    let advances = rw c.in-Closed.is at c.in_ok-advance-in-Tree.ensures in
    rw c.in-Tree.is (at_closed c.args.form c.args.asked.now b c.args.line.now
    (record { root = b.root; place = c.advance.new.place; choices = c.advance.new.choices }) c.leave_tree.new.stage
    advances c.leave_tree.ensures.stage c.leave_tree.ensures.open)
  where
    open c use {in-Tree.branch as b}

pub returns-in-Nothing : goal.returns-in-Nothing
returns-in-Nothing c =
    let advances = rw c.in-Nothing.is at c.in_ok-advance-in-Tree.ensures in
    rw c.in-Tree.is (place_none c.args.form (schema_in a) (question_in a) (names_in a) c.args.line.now b.place _
    advances)
  where
    open c use {args.asked.now as a, in-Tree.branch as b}
