-- One literal more, and all of them.
use Rattle.std.proofs.Common.{arith, rules}
use Rattle.olap_clauses.{proofs.AdmitsLemmas.by_kind, proofs.FactLemmas.{kept_more, kept_all}, specs.Trails.steps_of}
use Rattle.olap_clauses.proofs.simplifying.shorten.Goals as goal

pub lits-preserved : goal.lits-preserved
lits-preserved c =
    record {
      kept = kept_more (steps_of c.args.trail.now) clause k c.lits.work.items new c.write_unless.ensures.kept
          c.lits.invariant.kept (λ v a h. by_kind c.eq-out.result
          (λ e. absurd (c.value.ensures.no (search (rules, e, c.eq-out.ensures)) v a h))
          (λ e. c.write_unless.ensures.written e));
      count = let h = c.write_unless.ensures.count in let i = c.lits.invariant.count in omega arith;
      room = let h = c.write_unless.ensures.room in let i = c.lits.invariant.room in omega arith;
    }
  where
    open c use {lits.k, args.clause.now as clause, write_unless.new.work.items as new}

pub returns-clause-right : goal.returns-clause-right
returns-clause-right c = λ v a sat.
    kept_all (steps_of c.args.trail.now) c.args.clause.now c.lits.k c.lits.work.items (omega arith)
    c.lits.invariant.kept v a sat
