-- One literal more, and all of them.
use Rattle.std.proofs.Common.{refl}
use Rattle.olap_clauses.{proofs.MarkLemmas.{tested_more, none_true}, specs.Trails.values_of}
use Rattle.olap_clauses.proofs.analysing.mark_false.Goals as goal

pub lits-preserved : goal.lits-preserved
lits-preserved c =
    let m = c.if-not-mark.ensures in
    tested_more (values_of c.args.trail.now) c.args.clause.now c.lits.k c.lits.seen c.mark.new.seen 4294967295
    m.grows c.lits.invariant
    (record { value_is = m.value refl; other = m.other refl; marked = m.marked refl })

pub returns : goal.returns
returns c = λ _ v sat a.
    none_true v (values_of c.args.trail.now) c.args.clause.now c.lits.k c.lits.seen 4294967295
    c.lits-test.false c.lits.invariant sat a
