use Rattle.std.proofs.Common.{ℕ, ap, ◌∙◌}
use Rattle.olap_records.specs.Texts.{text_of_rows}
use Rattle.olap_generate.proofs.TextLemmas.{all_groups, rows_of_groups}
use Rattle.olap_generate.proofs.members.add_members.Goals as goal

pub returns : goal.returns
returns c =
    all_groups seed size c.groups-groups.result _ _ _ _ _ _ _ _ _ _ c.requires.empty
    c.in_ok-add.ensures.text c.in_ok-add_stores.ensures.text c.in_ok-add_cities.ensures.text
    c.in_ok-add_below.ensures.text c.in_ok-add_beside.ensures.text c.in_ok-add_beside-2.ensures.text
    c.in_ok-add_below-2.ensures.text c.in_ok-add_below-3.ensures.text c.in_ok-add_countries.ensures.text
    ∙ ap (λ (g : ℕ). text_of_rows (rows_of_groups seed size g)) c.groups-groups.ensures.value
  where
    open c use {args.input.now.seed, args.input.now.size}
