-- The view after the step at the member that is reached.
use Rattle.std.proofs.Common.{arith, Option, ap, sym, ◌∙◌, get_or, refl, of_z, rules, to_z, w64}
use Rattle.std.proofs.lemmas.{Grind.common_steps, Int.to_z-of_z, List.Elements.Contains-get_or}
use Rattle.std.proofs.lemmas.Result.{err_from_is_err_and}
use Rattle.olap_base.specs.Summaries.{Summary}
use Rattle.olap_facts.specs.Seen.{fact_of}
use Rattle.olap_view.specs.{Seen.summary_of, SummaryTables.stands_at}
use Rattle.olap_delta.proofs.ChangingLemmas.{put_storable, view_kept, view_left, view_put, view_refused}
use Rattle.olap_delta.specs.Changing.{step_of}
use mir.Val.{SFits}
use Rattle.olap_delta.proofs.changes.Change.view.Goals as goal

pub returns-in_err-summary-clause-view : goal.returns-in_err-summary-clause-view
returns-in_err-summary-clause-view c =
    let t = c.args.table.now in
    let k = Contains-get_or t.categories c.args.k 0 c.requires.category in
    let fits : SFits w64 c.args.fact.now.value = search rules in
    let p = err_from_is_err_and c.from_residual.result c.from_residual.ensures.1 in
    rw (p.1, p.2) (view_refused (step_of c.args.self) t (fact_of c.args.fact.now) (get_or t.categories c.args.k 0) k
    c.in-Some.y.0 c.in-Some.ensures.some c.in_err-summary.field-0.0
    (ap (step_of c.args.self (stands_at t c.in-Some.y.0)) (sym (to_z-of_z w64 c.args.fact.now.value fits))
    ∙ ap (λ (o : Option Summary). step_of c.args.self o (to_z w64 (of_z w64 c.args.fact.now.value))) (sym c.at.ensures)
    ∙ c.in_err-summary.ensures.step))

pub returns-in_ok-summary-clause-storable : goal.returns-in_ok-summary-clause-storable
returns-in_ok-summary-clause-storable c = grind (arith, common_steps, put_storable)

pub returns-in_ok-summary-clause-view : goal.returns-in_ok-summary-clause-view
returns-in_ok-summary-clause-view c = search (rules, Contains-get_or, view_put, to_z-of_z, to_z, of_z)

pub returns-in_ok-summary-clause-others : goal.returns-in_ok-summary-clause-others
returns-in_ok-summary-clause-others c = λ d k n.
    let t = c.args.table.now in
    view_kept c.in-Some.y.0 (summary_of c.in_ok-summary.summary) t c.put.new.self (record {
      instance = c.put.ensures.instance;
      categories = c.put.ensures.categories;
      at = c.put.ensures.at;
    }) d k (λ e. n (sym e ∙ c.in-Some.ensures.some.is_member.1))

pub returns-in_default-clause-view : goal.returns-in_default-clause-view
returns-in_default-clause-view c =
    let t = c.args.table.now in
    let k = Contains-get_or t.categories c.args.k 0 c.requires.category in
    view_left (step_of c.args.self) t (fact_of c.args.fact.now) (get_or t.categories c.args.k 0) k
    (c.in_default.ensures.none refl)
