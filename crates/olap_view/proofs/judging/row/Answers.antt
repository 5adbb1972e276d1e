-- A row's checks.
use Rattle.std.proofs.{Common.{◌≡◌, ◌∙◌, Bool, Option, false, true, is_some, ap, sym, arith}, lemmas.Grind.common_steps}
use Rattle.std.specs.Option.{option_map}
use Rattle.olap_base.{proofs.GeneralLemmas.none_from_is_some, specs.Instance.category_of, specs.Summaries.Summary}
use Rattle.olap_view.proofs.{JudgingLemmas.{no-view, row-is, row-twice, some-seen}, ViewingLemmas.passes}
use Rattle.olap_view.specs.{Seen.summary_of, StoredRows.stored_at}
use Rattle.olap_view.specs.declared.summaries.Summary as told
use Rattle.olap_view.proofs.judging.row.Goals as goal

-- whether a row of the member is there, as the table tells it
there : (found : Option told.Summary) (stored : Option Summary) (b d : Bool) → option_map summary_of found ≡ stored
    → b ≡ is_some found → b ≡ d → is_some stored ≡ d
there found stored b d e f g = ap is_some (sym e) ∙ some-seen summary_of found ∙ sym f ∙ g

pub returns-then-not-is_among-clause-judged : goal.returns-then-not-is_among-clause-judged
returns-then-not-is_among-clause-judged c = λ g earlier t named n.
    no-view g c.args.instance.now earlier c.args.rows.now.row c.args.table.now t c.args.c.0 named c.is_among.result
    (rw c.deref.ensures.value at c.is_among.ensures)
    c.if-not-is_among.true

pub returns-then-is_some-clause-judged : goal.returns-then-is_some-clause-judged
returns-then-is_some-clause-judged c = grind (arith, common_steps, row-twice, passes, there)

pub returns-clause-new : goal.returns-clause-new
returns-clause-new c = grind (arith, none_from_is_some, there)

pub returns-clause-judged : goal.returns-clause-judged
returns-clause-judged c = λ g earlier t named n.
    row-is g c.args.instance.now earlier c.args.rows.now.row c.args.table.now t c.args.c.0 named c.is_among.result
    (rw c.deref.ensures.value at c.is_among.ensures)
    c.if-not-is_among.false c.in-Some.member.0
    (rw c.field.ensures at c.in-Some.ensures.place) c.in-Some.ensures.inside
    (passes c.category.result.0 (category_of c.args.instance.now c.in-Some.member.0) c.args.c.0 c.category.ensures
    c.if-category-c.false) (summary_of c.in-Some-summary.summary)
    c.in-Some-summary.ensures.read n (c.in-Some-summary.ensures.stored c.in-Some.member.0)
    (there c.at.result (stored_at c.args.table.now c.in-Some.member.0) c.is_some.result false c.at.ensures
    c.is_some.ensures c.if-is_some.false)
