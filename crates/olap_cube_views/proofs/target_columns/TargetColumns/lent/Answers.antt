-- One dimension more, and all of them.
use Rattle.std.proofs.Common.{List, ap, arith, length, sym, take, ◌++◌, ◌∷◌, [], ◌<◌, ◌≤◌, ◌∙◌}
use Rattle.std.proofs.lemmas.List.{take_all, take_more}
use Rattle.olap_view.specs.Columns.{Ascent, ascent}
use Rattle.olap_cube_views.proofs.target_columns.TargetColumns.lent.Goals as goal

pub dimensions-preserved : goal.dimensions-preserved
dimensions-preserved c =
    let n = c.len-k-end.ensures.count in
    let h : k < length columns = let t = c.dimensions-test.true in omega arith in
    c.in_ok-push.ensures.items
    ∙ ap (λ (t : List Ascent). t ++ c.column-in-dimensions.result ∷ []) c.dimensions.invariant
    ∙ ap (λ (a : Ascent). take k columns ++ a ∷ []) (c.column-in-dimensions.ensures ∙ c.column.ensures)
    ∙ sym (take_more columns k (ascent [] 0) h)
  where
    open c use {args.self.now as columns, dimensions.k}

pub returns-clause-columns : goal.returns-clause-columns
returns-clause-columns c =
    let columns = c.args.self.now in
    let n = c.len-k-end.ensures.count in
    let h : length columns ≤ c.dimensions.k = let t = c.dimensions-test.false in omega arith in
    c.dimensions.invariant ∙ take_all c.dimensions.k columns h

pub returns-clause-few : goal.returns-clause-few
returns-clause-few c =
    let e = ap length (returns-clause-columns c) in let f = c.len-k-end.ensures.few in omega arith
