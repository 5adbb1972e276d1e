-- The view of one category more.
use Rattle.std.proofs.{Common.{rules, arith}, lemmas.Grind.common_steps, lemmas.List.{get_or_default, take_all}}
use Rattle.std.proofs.lemmas.List.Elements.{All-push}
use Rattle.olap_base.specs.declared.ids.CatId.{CatId}
use Rattle.olap_view.proofs.TableLemmas.{views_more}
use Rattle.olap_view.specs.declared.views.View as told
use Rattle.olap_view.proofs.stored_rows.StoredRows.views.Goals as goal

-- what categories have past their end
nobody : CatId
nobody = record { 0 = 0 }

pub categories-preserved : goal.categories-preserved
unfolding nobody
categories-preserved c = grind (arith, common_steps, nobody, views_more, get_or_default, All-push)

pub returns-clause-views : goal.returns-clause-views
returns-clause-views c = grind (arith, take_all)

pub returns-clause-members : goal.returns-clause-members
returns-clause-members c = search rules
