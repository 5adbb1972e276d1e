-- The member's lot begins.
use Rattle.std.proofs.{Common.{ap, refl, rules, ◌∙◌, w64}, lemmas.Int.to_z-of_z, lemmas.List.length-set}
use Rattle.olap_base.specs.Summaries.{of_value}
use Rattle.olap_facts.specs.Seen.{fact_of}
use Rattle.olap_delta.proofs.LotLemmas.{begun}
use mir.Val.{SFits}
use Rattle.olap_delta.proofs.lots.Lots.begin.Goals as goal

pub returns : goal.returns
returns c =
    let old = c.args.self.now in
    let fits : SFits w64 c.args.fact.now.value = search rules in
    begun (fact_of c.args.fact.now)
    (record { member = c.args.fact.now.member; summary = c.of_value-alone.result }) old _ (record {
      inside = c.requires.member;
      member = refl;
      summary = c.of_value-alone.ensures ∙ ap of_value (to_z-of_z w64 c.args.fact.now.value fits);
      value = fits;
      places = length-set old.places.items c.args.fact.now.member.0 c.len.result;
      lots = c.in_ok-push.ensures.items;
      taken = refl;
    }) c.requires.lots
