-- No sum wraps, and what comes may be stored.
use Rattle.std.proofs.{Common.{◌≡◌, ap, sym, subst, ◌∙◌, w64}, lemmas.Int.to_z-of_z}
use Rattle.olap_base.specs.Summaries.{Summary, joined, of_value}
use Rattle.olap_view.specs.{Seen.summary_of, StoredNumbers.is_sum}
use Rattle.olap_delta.{proofs.StepLemmas.{joined_storable, kept, small}, specs.Changing.IsStorable}
use mir.Val.{SFits}
use Rattle.olap_delta.proofs.changes.append.Goals as goal

pub joined-joined-requires-clause-this : goal.joined-joined-requires-clause-this
joined-joined-requires-clause-this c =
    small (summary_of c.in-Some.row) (kept c.args.there c.in-Some.row c.in-Some.is c.requires)

pub returns-clause-storable : goal.returns-clause-storable
returns-clause-storable c =
    let fits : SFits w64 c.args.value = c.ranges.value in
    let e : summary_of c.joined-joined.result ≡ joined (summary_of c.in-Some.row) (of_value c.args.value) =
    c.joined-joined.ensures
    ∙ ap (joined (summary_of c.in-Some.row))
    (c.of_value-alone.ensures ∙ ap of_value (to_z-of_z w64 c.args.value fits)) in
    subst IsStorable (sym e) (joined_storable (summary_of c.in-Some.row) c.args.value c.if-row-eq-MOST_COUNT.false fits
    (ap (λ (s : Summary). is_sum s.sum) (sym e) ∙ sym c.sum_fits.ensures ∙ c.if-not-sum_fits.false)
    (kept c.args.there c.in-Some.row c.in-Some.is c.requires))
