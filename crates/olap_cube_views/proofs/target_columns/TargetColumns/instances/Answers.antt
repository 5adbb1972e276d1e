-- One dimension more, and all of them.
use Rattle.std.proofs.Common.{Bor, [], ap, arith, length, sym, ◌<◌, ◌≤◌, ◌∙◌}
use Rattle.std.proofs.lemmas.List.{get_or-map, length-map, take_all}
use Rattle.olap_base.specs.Instance.{Instance}
use Rattle.olap_view.specs.Columns.{Ascent, ascent}
use Rattle.olap_cube_views.{proofs.ReferenceLemmas.mapped_more, specs.Dimensions.instances_in}
use Rattle.olap_cube_views.proofs.target_columns.TargetColumns.instances.Goals as goal

pub dimensions-preserved : goal.dimensions-preserved
dimensions-preserved c =
    let l = length-map columns (λ (a : Ascent). a.instance) in
    let n = c.len-k-end.ensures.count in
    let h : k < length columns = let t = c.dimensions-test.true in omega arith in
    mapped_more (λ (i : Bor Instance). i.now) c.dimensions.instances.items c.push.new.self.items c.instance.result
    (instances_in columns) k [] (omega arith) c.in_ok-push.ensures.items c.dimensions.invariant
    (c.instance.ensures ∙ sym (get_or-map (λ (a : Ascent). a.instance) columns k (ascent [] 0) [] h))
  where
    open c use {args.self.now as columns, dimensions.k}

pub returns-clause-instances : goal.returns-clause-instances
returns-clause-instances c =
    let columns = c.args.self.now in
    let l = length-map columns (λ (a : Ascent). a.instance) in
    let n = c.len-k-end.ensures.count in
    let h : length (instances_in columns) ≤ c.dimensions.k = let t = c.dimensions-test.false in omega arith in
    c.dimensions.invariant ∙ take_all c.dimensions.k (instances_in columns) h

pub returns-clause-few : goal.returns-clause-few
returns-clause-few c =
    let l = length-map c.args.self.now (λ (a : Ascent). a.instance) in
    let m = length-map c.dimensions.instances.items (λ (i : Bor Instance). i.now) in
    let e = ap length (returns-clause-instances c) in
    let f = c.len-k-end.ensures.few in omega arith
