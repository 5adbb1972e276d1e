-- One byte more that only joins the field.
use Rattle.std.proofs.Common.{sym, subst, get_or}
use Rattle.csv.specs.{Machine.Runs, Reading.default_config}
use Rattle.olap_records.{proofs.RunLemmas.{between, between-more, between-none, runs-more}, specs.Places.state_of}
use Rattle.olap_records.proofs.steps.joined_up_to.Goals as goal

pub run-init : goal.run-init
unfolding Runs
run-init c =
    subst (λ xs. Runs default_config (state_of c.args.place) xs) (sym (between-none c.args.from c.args.piece.now)) tt

pub run-preserved : goal.run-preserved
run-preserved c =
    let piece = c.args.piece.now in
    let s = state_of c.args.place in
    subst (λ xs. Runs default_config s xs) (sym (between-more c.args.from c.run.i piece c.run.auto.i c.run-test.true))
    (runs-more s (between c.args.from c.run.i piece) (get_or piece c.run.i 0) c.run.invariant
    (c.joins.ensures c.if-not-joins.false))
