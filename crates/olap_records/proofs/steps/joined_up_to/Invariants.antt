-- The bytes so far only join the field.
use Rattle.csv.specs.{Machine.Runs, Reading.default_config}
use Rattle.olap_records.{proofs.RunLemmas.between, specs.Places.state_of}
use Rattle.olap_records.proofs.steps.joined_up_to.Given as goal

abbrev pub invariant-run : goal.invariant-run
invariant-run l = Runs default_config (state_of l.place) (between l.from l.i l.piece)
