-- The value is joined to the lot.
use Rattle.std.proofs.{Common.{ap, get_or, refl, rules, ◌∙◌, w64}, lemmas.Int.to_z-of_z}
use Rattle.olap_base.specs.Summaries.{joined, of_value}
use Rattle.olap_facts.specs.Seen.{fact_of}
use Rattle.olap_view.specs.Seen.{summary_of}
use Rattle.olap_delta.{proofs.LotLemmas.grown, specs.declared.lots.Lot.Lot}
use mir.Val.{SFits}
use Rattle.olap_delta.proofs.lots.Lots.join.Goals as goal

pub returns : goal.returns
returns c =
    let alone = summary_of c.of_value-alone.result in
    let fits : SFits w64 c.args.fact.now.value = search rules in
    grown (fact_of c.args.fact.now) c.args.place
    (record { member = c.args.fact.now.member; summary = c.joined-summary.result }) d old _ (record {
      inside = c.requires.inside;
      own = c.requires.own d;
      member = refl;
      summary = c.joined-summary.ensures
          ∙ ap (λ (m : Lot). joined (summary_of m.summary) alone) c.index.ensures
          ∙ ap (joined (summary_of (get_or old.lots.items c.args.place d).summary))
          (c.of_value-alone.ensures ∙ ap of_value (to_z-of_z w64 c.args.fact.now.value fits));
      value = fits;
      places = refl;
      lots = refl;
      taken = refl;
    }) c.requires.lots
  where
    open c use {args.self.now as old, index.result.now as d}
