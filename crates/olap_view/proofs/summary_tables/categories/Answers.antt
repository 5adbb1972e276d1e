-- A view more.
use Rattle.std.proofs.{Common.arith, lemmas.List.take_all}
use Rattle.olap_view.proofs.SummaryTableLemmas.{categories_more}
use Rattle.olap_view.specs.declared.views.View as told
use Rattle.olap_view.proofs.summary_tables.categories.Goals as goal

pub views-preserved : goal.views-preserved
views-preserved c = grind (arith, categories_more)

pub returns : goal.returns
returns c = grind (arith, take_all)
