use Rattle.std.proofs.Common.{true}
use Rattle.olap_dimsat.{proofs.TrackingLemmas.{cycle_none, read_more, shortcut_none}, specs.Asking.task_of}
use Rattle.olap_dimsat.specs.Reads.{EdgeReads}
use Rattle.olap_dimsat.proofs.tracking.add.Goals as goal

pub returns-then-closes_cycle-clause-none : goal.returns-then-closes_cycle-clause-none
returns-then-closes_cycle-clause-none c = λ _.
    let t = task_of c.args.a.now in
    let e = c.args.e.0 in
    let reads : EdgeReads t c.args.trail.now e true = rw (← c.if-present.true) c.requires.reads in
    cycle_none t c.args.trail.now c.requires.task c.args.decided.now c.requires.of c.requires.read e reads
    (c.closes_cycle.ensures.0 c.if-closes_cycle.true)

pub returns-then-makes_shortcut-clause-none : goal.returns-then-makes_shortcut-clause-none
returns-then-makes_shortcut-clause-none c = λ _.
    let t = task_of c.args.a.now in
    let e = c.args.e.0 in
    let reads : EdgeReads t c.args.trail.now e true = rw (← c.if-present.true) c.requires.reads in
    shortcut_none t c.args.trail.now c.requires.task c.args.decided.now c.requires.of c.requires.read e reads
    (c.makes_shortcut.ensures.0 c.if-makes_shortcut.true)

pub returns-clause-read : goal.returns-clause-read
returns-clause-read c =
    let t = task_of c.args.a.now in
    let d = c.args.decided.now in
    rw c.decide.ensures
    (read_more t c.args.trail.now d.decisions (record { edge = c.args.e.0; present = c.args.present }) c.requires.read
    c.requires.reads)
