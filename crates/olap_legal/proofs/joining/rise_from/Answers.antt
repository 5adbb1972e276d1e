-- A parent more, and in the end z itself.
use Rattle.std.proofs.Common.{◌≡◌, get_or, set, replicate, subst, sym, ◌∙◌, arith}
use Rattle.olap_base.specs.Instance.{parents_of}
use Rattle.olap_legal.proofs.JoiningLemmas.{joined_none, joined_more, joined_rise, row_join}
use Rattle.olap_legal.{proofs.ParentLemmas.{parent_at, parent_member, take_read}, specs.Joining.AreJoined}
use Rattle.olap_legal.specs.Rows.{none, IsRise}
use Rattle.olap_legal.proofs.joining.rise_from.Goals as goal

pub parents-init : goal.parents-init
parents-init c = record {
  size = c.fill.ensures.len ∙ c.requires.row;
  joined = joined_none c.requires.bounded
      (subst (λ k. c.fill.new.self ≡ replicate k none) c.requires.row (c.fill.ensures.after (λ y e. e)));
}

pub is_placed-requires-clause-x : goal.is_placed-requires-clause-x
is_placed-requires-clause-x c =
    let ids = c.parents-p-items in
    parent_member
    (parent_at c.args.instance.now c.args.z _ _ ids.ensures.list ids.ensures.places c.parents-test.true)

pub join-requires-clause-x : goal.join-requires-clause-x
join-requires-clause-x c =
    let ids = c.parents-p-items in
    parent_member
    (parent_at c.args.instance.now c.args.z _ _ ids.ensures.list ids.ensures.places c.parents-test.true)

pub parents-preserved : goal.parents-preserved
parents-preserved c =
    let at = parent_at i c.args.z _ _ ids.ensures.list ids.ensures.places c.parents-test.true in
    let has = c.is_placed.ensures c.if-not-is_placed.false in
    let above = subst (λ y. IsRise i n y has.row) at.is has.rise in
    let j = row_join has v.size c.join.ensures.length (c.join.ensures.each c.if-not-join.false) in
    record {
      size = j.same_length ∙ v.size;
      joined = joined_more (parents_of i c.args.z) c.parents.p-index c.requires.bounded at.inside v.size above j
          v.joined;
    }
  where
    open c use {parents-p-items as ids, args.instance.now as i, args.categories as n, parents.invariant as v}

pub bounds-row-own : goal.bounds-row-own
bounds-row-own c =
    let d_is = c.from-own.ensures ∙ c.category.ensures in
    let b = c.requires.bounded.categories c.args.z c.requires.z in
    omega (arith, d_is, b, c.parents.invariant.size)

pub bounds-row-own-2 : goal.bounds-row-own-2
bounds-row-own-2 c =
    let d_is = c.from-own.ensures ∙ c.category.ensures in
    let b = c.requires.bounded.categories c.args.z c.requires.z in
    omega (arith, d_is, b, c.parents.invariant.size)

pub returns : goal.returns
returns c = λ _.
    let d_is = c.from-own.ensures ∙ c.category.ensures in
    let v = subst (λ l. AreJoined i l row) (take_read i z c.parents.p-index ids.result.now ids.ensures.list
    c.parents-test.false) c.parents.invariant.joined in
    let free = subst (λ d. get_or row d 0 ≡ none) d_is c.if-row-own.false in
    subst (λ d. IsRise i n z (set row d z)) (sym d_is)
    (joined_rise c.requires.bounded c.requires.z c.parents.invariant.size v free)
  where
    open c use {parents-p-items as ids, args.instance.now as i, args.categories as n, args.z, parents.row}
