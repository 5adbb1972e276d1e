-- What is true of all clauses is true of the rows.
use Rattle.std.proofs.Common.{Bool, List, Option, sym, subst}
use Rattle.olap_parities.specs.{Columns.AreZero, Known.Knows, declared.rows.Row.Row}
use Rattle.olap_parities.proofs.parities.Parities.derive.Goals as goal

pub returns-clause-none : goal.returns-clause-none
returns-clause-none c = λ r v t.
    let known = subst (λ (values : List (Option Bool)). Knows values v) (sym c.deref_mut.ensures.value)
    (c.learn.ensures v t) in
    c.reduce.ensures.none r v
    (subst (λ (rows : List (Row 64)). AreZero v c.read.new.columns rows) (sym c.deref_mut-2.ensures.value)
    (c.read.ensures v t known))

pub returns-clause-kept : goal.returns-clause-kept
returns-clause-kept c = λ v t u.
    let known = subst (λ (values : List (Option Bool)). Knows values v) (sym c.deref_mut.ensures.value)
    (c.learn.ensures v t) in
    c.reduce.ensures.kept v
    (subst (λ (rows : List (Row 64)). AreZero v c.read.new.columns rows) (sym c.deref_mut-2.ensures.value)
    (c.read.ensures v t known))
    u
