-- Before the first false member of a block the formula is true, in the blocks before it too.
use Rattle.std.proofs.{Common.{◌*◌, ◌-◌, take, drop, length, refl, arith}, lemmas.Grind.div_ceil_times}
use Rattle.olap_ast.specs.Trees.{formula_of}
use Rattle.olap_check.{proofs.MeetingLemmas.{first_of_all, part_of, true_at_all}, specs.Blocks.width}
use Rattle.olap_check.proofs.meeting.first_unmet.Goals as goal

pub invariant_of-block : goal.invariant_of-block
invariant_of-block c =
    let group = c.args.group.now in
    let start = c.steps.step * width in
    let enough = div_ceil_times (length group) width (omega arith) in
    record {
      sound = record {
        has_table = record { bounded = c.requires.bounded; table = c.requires.table };
        is_part = part_of c.args.instance.now c.args.root.0 start c.min-end.result group
            (take (c.min-end.result - start) (drop start group)) c.requires.group
            (omega (arith, enough, c.steps-test.true)) (omega (arith, c.min-end.ensures)) refl;
        all_places = c.all_places-all.ensures;
      };
    }

pub returns-in-Some-clause-some : goal.returns-in-Some-clause-some
returns-in-Some-clause-some c =
    first_of_all c.args.instance.now c.args.root.0 (formula_of c.args.formula.now) c.steps.step c.steps.invariant.1
    c.in-Some.x c.in-Some.ensures.some

pub returns-clause-none : goal.returns-clause-none
returns-clause-none c = λ e x m.
    let enough = div_ceil_times (length c.args.group.now) width (omega arith) in
    true_at_all c.args.instance.now c.args.root.0 (formula_of c.args.formula.now) c.steps.step c.steps.invariant.1
    c.args.group.now c.requires.group (omega (arith, enough, c.steps-test.false)) x m
