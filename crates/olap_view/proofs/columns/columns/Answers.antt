-- A column more.
use Rattle.std.proofs.{Common.arith, Math.Seq.take_all, lemmas.Grind.common_steps, lemmas.List.get_or_default}
use Rattle.olap_base.specs.declared.ids.CatId.{CatId}
use Rattle.olap_view.proofs.{ColumnLemmas.{columns_more, columns_start}, TableLemmas.ids_more}
use Rattle.olap_view.proofs.columns.columns.Goals as goal

pub categories-init : goal.categories-init
categories-init c = rw c.new-columns.ensures.items (columns_start c.args.legal.now)

-- what a slice of categories has past its end
nobody : CatId
nobody = record { 0 = 0 }

pub categories-preserved : goal.categories-preserved
unfolding nobody
categories-preserved c = grind (arith, common_steps, nobody, ids_more, get_or_default, columns_more)

pub returns : goal.returns
returns c = grind (arith, take_all)
