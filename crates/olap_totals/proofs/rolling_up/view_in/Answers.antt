use Rattle.std.proofs.Common.{List, get_or, ap, ◌∙◌}
use Rattle.olap_base.specs.{Instance.Instance, Views.{direct_view, members}}
use Rattle.olap_view.specs.{Seen.view_of, ViewText.view_text}
use Rattle.olap_order.{proofs.Replying.told_shown, proofs.Stepping.{answered, ended, followed}, specs.Order.Told}
use Rattle.olap_order.specs.declared.status.Status.TheVariants.{Yes}
use Rattle.olap_totals.proofs.ViewLemmas.{only_view}
use Rattle.olap_view.specs.declared.views.View as told
use Rattle.olap_totals.proofs.rolling_up.view_in.Goals as goal

pub returns-in_err-views : goal.returns-in_err-views
returns-in_err-views g c = record {
  judged = ended c.in_err-views.ensures.step
      (λ table. Told Yes (view_text c.args.legal.now (direct_view (members c.args.legal.now) table c.args.category.0)))
      c.from_residual.ensures.1;
}

pub returns : goal.returns
returns g c =
    let read = c.in_ok-views.ensures.step in
    let direct = direct_view (members i) read.facts c.args.category.0 in
    let first = c.index-items-0.is ∙ ap (λ (views : List told.View). get_or views 0 view) c.items.ensures in
    let text = c.yes.ensures.bytes ∙ c.into_bytes.ensures ∙ c.in_ok-text.ensures.text
    ∙ ap (λ (j : Instance). view_text j (view_of view)) c.instance.ensures
    ∙ ap (view_text i) (only_view c.in_ok-views.views view direct read.direct first) in
    record {
      judged = followed read.step (λ table. Told Yes (view_text i (direct_view (members i) table c.args.category.0)))
          (answered _ (told_shown (view_text i direct) c.yes.result c.yes.ensures.status text));
    }
  where
    open c use {args.legal.now as i, index-items-0.result as view}
