-- The views of the table are the direct ones.
use Rattle.std.{proofs.Common.{arith, ◌≡◌, List, sym, subst}, specs.Prelude.All}
use Rattle.olap_base.{proofs.GeneralLemmas.if_ok, specs.Views.members}
use Rattle.olap_view.{proofs.TallyLemmas.{views_are, views_stored}, specs.Seen.each_view_of, specs.Stores.Fits}
use Rattle.olap_view.specs.SummaryTables.{views_at}
use Rattle.olap_view.specs.declared.views.View as told
use Rattle.olap_view.proofs.tallies.Tally.into_views.Goals as goal

pub returns-clause-views : goal.returns-clause-views
returns-clause-views c = grind (arith, if_ok, views_are)

pub returns-clause-members : goal.returns-clause-members
returns-clause-members c = rw c.into_table-table.ensures.table.instance at c.views.ensures.members

pub returns-clause-fit : goal.returns-clause-fit
returns-clause-fit c =
    if_ok c.views.result (λ (v : List told.View). each_view_of v ≡ views_at t)
    (λ (v : List told.View). All Fits (each_view_of v))
    (λ v e. subst (All Fits) (sym e)
    (views_stored a t c.into_table-table.ensures.table c.into_table-table.ensures.fit)) c.views.ensures.views
  where
    open c use {args.self as a, into_table-table.result as t}
