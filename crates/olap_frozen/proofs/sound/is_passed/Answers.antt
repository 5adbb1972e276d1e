use Rattle.std.proofs.{Common.{false, arith, rules}, lemmas.Bool.{cases_Bool, eqb-true, eq-eqb}}
use Rattle.olap_frozen.proofs.PassedLemmas.{none_more, not_passed, passed_by}
use Rattle.olap_frozen.proofs.sound.is_passed.Goals.{else-edges-from-via-then-edges-from+then-ne+else-row_has, else-edges-from-via-then-edges-from+else-ne, else-edges-from-via-else-edges-from}
use Rattle.std.specs.FinSet as set
use Rattle.olap_frozen.proofs.sound.is_passed.Goals as goal

pub returns-then-row_has : goal.returns-then-row_has
returns-then-row_has c = search (rules, passed_by, eq-eqb)

pub edges-preserved : goal.edges-preserved
edges-preserved c =
    grind (
      arith,
      none_more,
      else-edges-from-via-then-edges-from+then-ne+else-row_has,
      else-edges-from-via-then-edges-from+else-ne,
      cases_Bool,
      eqb-true,
      else-edges-from-via-else-edges-from,
    )

pub returns : goal.returns
returns c = (
  λ e. cc,
  λ p. absurd (not_passed c.args.graph.now c.args.edges.now c.args.rows.now c.parents-e-items.result.now c.args.c.0
      c.args.d.0 c.edges.e-index c.parents-e-items.ensures.list (let t = c.edges-test.false in omega arith)
      c.edges.invariant p),
)
