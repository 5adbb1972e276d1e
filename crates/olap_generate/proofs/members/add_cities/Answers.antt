use Rattle.std.proofs.Common.{ℕ, ◌%◌, ◌==◌, List, codes, if◌then◌else◌, arith, ap, ◌∙◌}
use Rattle.olap_generate.{proofs.TextLemmas.{rows_more, same_row}, specs.Members.{named_row, city_row}}
use Rattle.olap_generate.proofs.members.add_cities.Goals as goal

pub cities-preserved : goal.cities-preserved
cities-preserved c = record {
  text = rows_more (city_row) 0 c.cities.j-counter (c.cities.j-counter) (omega arith)
      c.args.out.now.text c.cities.out.text c.add.new.out.text
      (named_row c.deref-in-cities.result.now (codes "City") c.city_name-name.result.now c.deref-in-cities-2.result.now)
      (same_row (codes "City") _ _ _ _ _ _ (c.deref-in-cities.ensures ∙ c.in_ok-id.ensures.ok)
      (c.city_name-name.ensures ∙ ap (λ (id : List ℕ). if c.cities.j-counter % 4 == 0 then codes "Washington" else id)
      (c.deref.ensures ∙ c.in_ok-id.ensures.ok))
      (c.deref-in-cities-2.ensures ∙ c.in_ok-parent.ensures)) c.cities.invariant.text c.in_ok-add.ensures.text;
  width = c.in_ok-add.ensures.width;
}
