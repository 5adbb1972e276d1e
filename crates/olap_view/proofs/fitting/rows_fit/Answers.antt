-- One row more, which is within the bounds.
use Rattle.std.proofs.{Common.{arith, get_or, take, false, true, sym, subst, ◌∙◌, pos}, lemmas.Bool.false≢true}
use Rattle.std.{proofs.lemmas.List.take_all, proofs.lemmas.List.Elements.All-push, specs.Prelude.All}
use Rattle.olap_view.{proofs.SeenLemmas.{each_row, rows_more_is}, specs.Seen.{row_of, rows_of}, specs.Stores.IsStored}
use Rattle.olap_view.specs.declared.views.Row as told
use Rattle.olap_view.proofs.fitting.rows_fit.Goals as goal

nothing : told.Row
nothing = record { member = record { 0 = 0 }; count = 0; sum = pos 0; least = pos 0; greatest = pos 0 }

pub returns-then-not-row_fits : goal.returns-then-not-row_fits
unfolding nothing
returns-then-not-row_fits c = (
  λ e. absurd (false≢true e),
  λ a. absurd (false≢true
      (sym c.if-not-row_fits.true ∙ c.row_fits.ensures.1 (each_row IsStored rows k nothing c.rows-test.true a))),
)
  where
    open c use {args.rows.now as rows, rows.row-index as k}

pub rows-preserved : goal.rows-preserved
unfolding nothing
rows-preserved c =
    let r = get_or rows k nothing in
    subst (All IsStored) (sym (rows_more_is rows k nothing c.rows-test.true))
    (All-push IsStored (rows_of (take k rows)) (row_of r) c.rows.invariant
    (c.row_fits.ensures.0 c.if-not-row_fits.false))
  where
    open c use {args.rows.now as rows, rows.row-index as k}

pub returns : goal.returns
returns c = grind (arith, take_all)
