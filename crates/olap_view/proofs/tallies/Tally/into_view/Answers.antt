-- The rows of the table are those of the direct view.
use Rattle.std.proofs.Common.{rules, arith, ◌≡◌, sym, subst}
use Rattle.olap_view.{proofs.TallyLemmas.view_is, specs.Seen.view_of, specs.Stores.Fits, specs.SummaryTables.view_at}
use Rattle.olap_base.proofs.GeneralLemmas.{if_ok}
use Rattle.olap_view.specs.declared.views.View as told
use Rattle.olap_view.proofs.tallies.Tally.into_view.Goals as goal

pub view-requires : goal.view-requires
view-requires c = search rules

pub returns-clause-view : goal.returns-clause-view
returns-clause-view c = grind (arith, if_ok, view_is)

pub returns-clause-fits : goal.returns-clause-fits
returns-clause-fits c =
    if_ok c.view.result (λ (v : told.View). view_of v ≡ view_at t d)
    (λ (v : told.View). Fits (view_of v))
    (λ v e. subst Fits (sym e) (c.into_table-table.ensures.fit d c.requires.among)) c.view.ensures.view
  where
    open c use {into_table-table.result as t, args.c.0 as d}
