use Rattle.std.proofs.Common.{ℕ, List, ap, sym, ◌∙◌}
use Rattle.olap_base.specs.Views.{Row, members, rows_from_views}
use Rattle.olap_nav.proofs.ChosenLemmas.{chosen_direct}
use Rattle.olap_view.specs.Seen.{views_of}
use Rattle.olap_nav.proofs.answering.answer.Goals as goal

pub returns-clause-direct : goal.returns-clause-direct
returns-clause-direct c = λ facts table e.
    let i = c.args.legal.now in
    let direct = chosen_direct i facts 0 (views_of c.args.store.now) c.in_ok-plan.plan.mask e in
    let agree = c.in_ok-plan.ensures.plan.serves.summarizable i c.requires.legal facts table in
    c.in_ok-view.ensures.view
    ∙ ap (λ (rows : List (Row ℕ)). record { target = c.args.target.0; rows = rows })
    (ap (rows_from_views (members i) c.args.target.0) direct ∙ sym agree)
