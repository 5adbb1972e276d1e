-- One row more.
use Rattle.std.proofs.Common.{Bool, List, Option, sym, subst, ◌∙◌}
use Rattle.olap_parities.specs.Known.{Knows}
use Rattle.olap_parities.proofs.parities.write_rows.Goals as goal

pub leaders-preserved : goal.leaders-preserved
leaders-preserved c =
    let i = c.leaders.invariant in
    record {
      same = c.write_row.ensures.same ∙ i.same;
      zero = λ v t knows.
          let here = subst (λ (values : List (Option Bool)). Knows values v) (sym i.same) knows in
          c.write_row.ensures.zero v t here (i.zero v t knows);
    }
