-- There are more clauses than sets.
use Rattle.std.proofs.Common.{List, subst, arith}
use Rattle.olap_parities.{proofs.EntryLemmas.crowded, specs.Entries.AreAlone, specs.declared.entries.Entry.Entry}
use Rattle.olap_parities.proofs.counting.is_crowded.Goals as goal

pub returns : goal.returns
returns c = λ r v t knows.
    let sets = c.count_sets-sets.result in
    crowded v c.enter_all-rows.result sets c.enter_all-rows.new.entries.items (omega arith)
    (c.enter_all-rows.ensures v t knows)
    (subst (λ (es : List Entry). AreAlone v sets es) c.deref-entered.ensures.value (c.are_alone.ensures r v t knows))
