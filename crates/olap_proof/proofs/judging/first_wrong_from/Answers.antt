use Rattle.std.proofs.{Common.{◌≡◌, ◌+◌, suc, ◌∷◌, ap, arith, length, refl, ◌∙◌}, lemmas.List.length-append}
use Rattle.olap_proof.proofs.StageLemmas.{reached_more, reached_start, right_end, wrong_after, wrong_here}
use Rattle.olap_proof.specs.Stages.{open_at}
use Rattle.olap_proof.proofs.judging.first_wrong_from.Goals as goal

pub lines-init : goal.lines-init
lines-init c =
    let a = c.args.asked.now in
    record {
      reached = rw c.requires.start (reached_start c.args.form a c.args.text.now);
      stage = rw c.requires.start tt;
      few = omega arith;
    }

pub returns-then-not-branch-clause-some : goal.returns-then-not-branch-clause-some
returns-then-not-branch-clause-some c =
    wrong_here c.args.form a c.args.text.now c.lines.rest.now x c.in-Some.others.now c.lines.count c.lines.stage
    c.requires.asked.hierarchy c.requires.few c.lines.invariant.reached c.in-Some.ensures.some
    c.in-Some.ensures.whole
    (rw c.if-not-branch.true at c.in_ok-step.ensures)
  where
    open c use {args.asked.now as a, in-Some.line.now as x}

pub lines-preserved : goal.lines-preserved
lines-preserved c =
    let steps = rw c.if-not-branch.false at c.in_ok-step.ensures in
    let count : length c.lines.rest.now ≡ length x + suc (length others) =
    ap length c.in-Some.ensures.some ∙ length-append x (10 ∷ others) in
    record {
      reached = reached_more c.args.form a c.args.text.now c.lines.rest.now x others c.lines.count
          (open_at a c.lines.stage) (open_at a later) c.lines.invariant.reached c.in-Some.ensures.some steps.1;
      stage = steps.0;
      few = omega (arith, count, c.lines.invariant.few);
    }
  where
    open c use {args.asked.now as a, in-Some.line.now as x, in-Some.others.now as others, step.new.stage as later}

pub returns-clause-none : goal.returns-clause-none
returns-clause-none c = λ none.
    let a = c.args.asked.now in
    let over = c.early_end.ensures.none a none in
    right_end c.args.form a c.args.text.now c.lines.rest.now c.lines.count c.lines.stage c.lines.invariant.reached
    over.0 over.1

pub returns-clause-some : goal.returns-clause-some
returns-clause-some c =
    let a = c.args.asked.now in
    let whole = c.next_line.ensures.none (rw c.in_default.is refl) in
    wrong_after c.args.form a c.args.text.now c.lines.rest.now c.lines.count c.lines.stage c.early_end.result
    c.lines.invariant.reached whole (c.early_end.ensures.some a)
