-- What comes may be stored.
use Rattle.std.proofs.{Common.{◌≡◌, ◌≤◌, ap, sym, subst, ◌∙◌, arith, w64}, lemmas.Int.to_z-of_z}
use Rattle.olap_base.specs.Summaries.{Summary}
use Rattle.olap_view.specs.{Seen.summary_of, StoredNumbers.is_sum}
use Rattle.olap_delta.{proofs.StepLemmas.{kept, without_storable}, specs.Changes.without, specs.Changing.IsStorable}
use mir.Val.{SFits}
use Rattle.olap_delta.proofs.changes.retract.Goals as goal

pub returns-clause-storable : goal.returns-clause-storable
returns-clause-storable c =
    let fits : SFits w64 c.args.value = c.ranges.value in
    let three : 3 ≤ c.in-Some.row.count = let h = c.if-row-le2.false in omega arith in
    let e : summary_of c.without-left.result ≡ without (summary_of c.in-Some.row) c.args.value =
    c.without-left.ensures ∙ ap (without (summary_of c.in-Some.row)) (to_z-of_z w64 c.args.value fits) in
    subst IsStorable (sym e) (without_storable (summary_of c.in-Some.row) c.args.value three
    (ap (λ (s : Summary). is_sum s.sum) (sym e) ∙ sym c.sum_fits.ensures ∙ c.if-not-sum_fits.false)
    (kept c.args.there c.in-Some.row c.in-Some.is c.requires))
