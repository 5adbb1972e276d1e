use Rattle.std.proofs.{Common.{ap, map, sym, ◌∙◌}, lemmas.Slice.Eq.slice_eq-Decides}
use Rattle.olap_base.specs.declared.ids.CatId.{CatId}
use Rattle.olap_cube_summ.proofs.TupleLemmas.{same_by_numbers, same_category}
use Rattle.olap_cube_summ.proofs.distinct.is_same.Goals as goal

pub returns : goal.returns
returns c =
    let d = slice_eq-Decides same_category _ _ _ c.eq.ensures in (
      λ t. ap (map (λ (x : CatId). x.0)) (sym c.items.ensures ∙ d.0 t ∙ c.items-2.ensures),
      λ e. d.1 (c.items.ensures ∙ same_by_numbers c.args.one.now.categories c.args.other.now.categories e
          ∙ sym c.items-2.ensures),
    )
