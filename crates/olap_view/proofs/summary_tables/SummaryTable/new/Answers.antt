-- Nothing stands in a new table.
use Rattle.std.proofs.Common.{rules, ◌∙◌}
use Rattle.olap_view.proofs.SummaryTableLemmas.{summarized_is}
use Rattle.olap_view.proofs.summary_tables.SummaryTable.new.Goals as goal

pub invariant_of-result : goal.invariant_of-result
invariant_of-result c = search rules

pub returns-clause-empty : goal.returns-clause-empty
returns-clause-empty c = λ y m.
    summarized_is c.args.legal.now c.in_ok-new.field-0 y m.member ∙ c.in_ok-new.ensures.empty y

pub returns-clause-few : goal.returns-clause-few
returns-clause-few c = rw c.instance.ensures at c.in_ok-new.ensures.few
