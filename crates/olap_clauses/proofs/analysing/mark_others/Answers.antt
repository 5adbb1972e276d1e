-- One literal more, and all of them.
use Rattle.std.proofs.Common.{inl, inr, refl, rules}
use Rattle.olap_clauses.proofs.MarkLemmas.{others_more, others_true}
use Rattle.olap_clauses.proofs.analysing.mark_others.Goals.{else-ne-via-then-ne+else-not-mark, else-ne-via-else-ne}
use Rattle.olap_clauses.specs.Trails.{values_of}
use Rattle.olap_clauses.proofs.analysing.mark_others.Goals as goal

pub lits-preserved : goal.lits-preserved
lits-preserved c = elim c.else-ne.branch [
  | else-ne-via-then-ne+else-not-mark w ↦ let m = w.if-not-mark.ensures in rw w.seen-is (record {
    grows = λ x h. m.grows x (grows x h);
    tested = others_more (values_of c.args.trail.now) clause c.args.lit i old w.mark.new.seen m.grows tested
        (inr (record { value_is = m.value refl; other = m.other refl; marked = m.marked refl }));
  })
  | else-ne-via-else-ne w ↦ rw w.seen-is (record {
    grows = grows;
    tested = others_more (values_of c.args.trail.now) clause c.args.lit i old old (λ x h. h) tested
        (inl (search (rules, w.if-ne.ensures)));
  })
]
  where
    open c use {args.clause.now as clause, lits.k as i, lits.seen as old, lits.invariant.grows, lits.invariant.tested}

pub returns-clause-right : goal.returns-clause-right
returns-clause-right c = λ _ v sat a.
    others_true v (values_of c.args.trail.now) c.args.clause.now c.args.lit c.lits.k c.lits.seen
    c.lits-test.false c.lits.invariant.tested sat a
