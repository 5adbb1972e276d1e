-- The table is as it was.
use Rattle.std.proofs.Common.{Bool, List, Option, sym, subst}
use Rattle.olap_parities.specs.Known.{Knows}
use Rattle.olap_parities.proofs.parities.read.Goals as goal

pub returns : goal.returns
returns c = λ v t knows.
    c.write_rows.ensures v t (subst (λ (values : List (Option Bool)). Knows values v) (sym c.note_all.ensures) knows)
