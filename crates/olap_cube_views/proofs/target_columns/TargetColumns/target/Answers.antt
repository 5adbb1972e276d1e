-- One dimension more.
use Rattle.std.proofs.{Common.{ap, arith, length, sym, ◌<◌, ◌∙◌, []}, lemmas.List.{get_or-map, length-map}}
use Rattle.olap_base.specs.declared.ids.CatId.{CatId}
use Rattle.olap_view.specs.Columns.{Ascent, ascent}
use Rattle.olap_cube_views.{proofs.ReferenceLemmas.mapped_more, specs.Dimensions.categories_in}
use Rattle.olap_cube_views.proofs.target_columns.TargetColumns.target.Goals as goal

pub dimensions-preserved : goal.dimensions-preserved
dimensions-preserved c =
    let l = length-map columns (λ (a : Ascent). a.category) in
    let n = c.len-k-end.ensures.count in
    let h : k < length columns = let t = c.dimensions-test.true in omega arith in
    mapped_more (λ (d : CatId). d.0) c.dimensions.target.items c.push.new.self.items c.category.result
    (categories_in columns) k 0 (omega arith) c.in_ok-push.ensures.items c.dimensions.invariant
    (c.category.ensures ∙ ap (λ (a : Ascent). a.category) c.column.ensures
    ∙ sym (get_or-map (λ (a : Ascent). a.category) columns k (ascent [] 0) 0 h))
  where
    open c use {args.self.now as columns, dimensions.k}
