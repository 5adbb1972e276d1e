-- One dimension more, and all of them.
use Rattle.std.proofs.{Common.{Bor, [], ap, arith, length, ◌<◌, ◌≤◌, ◌∙◌}, lemmas.List.{length-map, take_all}}
use Rattle.olap_base.specs.Instance.{Instance}
use Rattle.olap_cube_views.proofs.ReferenceLemmas.{mapped_more}
use Rattle.olap_cube_views.proofs.legals.Legals.instances.Goals as goal

pub dimensions-preserved : goal.dimensions-preserved
dimensions-preserved c =
    let n = c.len-k-end.ensures.count in
    let h : k < length legals = let t = c.dimensions-test.true in omega arith in
    mapped_more (λ (i : Bor Instance). i.now) c.dimensions.instances.items c.push.new.self.items c.instance.result
    legals k [] h c.in_ok-push.ensures.items c.dimensions.invariant (c.instance.ensures ∙ c.legal.ensures)
  where
    open c use {args.self.now as legals, dimensions.k}

pub returns-clause-instances : goal.returns-clause-instances
returns-clause-instances c =
    let legals = c.args.self.now in
    let n = c.len-k-end.ensures.count in
    let h : length legals ≤ c.dimensions.k = let t = c.dimensions-test.false in omega arith in
    c.dimensions.invariant ∙ take_all c.dimensions.k legals h

pub returns-clause-few : goal.returns-clause-few
returns-clause-few c =
    let m = length-map c.dimensions.instances.items (λ (i : Bor Instance). i.now) in
    let e = ap length (returns-clause-instances c) in
    let f = c.len-k-end.ensures.few in omega arith
