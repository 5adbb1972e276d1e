-- One literal less.
use Rattle.std.proofs.{Common.{◌∷◌, [], length, sym, ap, ◌∙◌, arith}, lemmas.List.length_push}
use Rattle.olap_clauses.{proofs.AdmitsLemmas.grown_again, specs.Admits.Grown, specs.Trails.steps_of}
use Rattle.olap_clauses.proofs.retreating.back.Goals as goal

pub steps-preserved : goal.steps-preserved
steps-preserved c =
    let last : Grown left (steps_of c.steps.trail) = record {
      more = c.in-Some.step ∷ [];
      grown = e.cases;
      forced = (sym c.is_decision.ensures ∙ c.if-is_decision.false, tt);
    } in record {
      off = grown_again left (steps_of c.steps.trail) (steps_of c.args.trail.now) last i.off;
      above = omega (arith, ap length e.cases, length_push left c.in-Some.step, c.len.ensures, c.steps-test.true);
      variables = e.variables ∙ i.variables;
    }
  where
    open c use {steps.invariant as i, in-Some.ensures as e, pop.new.self.steps.items as left}
