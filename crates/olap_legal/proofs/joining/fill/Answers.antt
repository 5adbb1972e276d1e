-- Nothing is listed or marked at first; a member is listed before those above it.
use Rattle.std.proofs.{Common.{◌<◌, false, length, ap, ◌∙◌, arith}, lemmas.List.length-replicate}
use Rattle.olap_legal.proofs.JoiningLemmas.{listed_none, listed_push}
use Rattle.olap_legal.proofs.joining.fill.Goals as goal

pub members-init : goal.members-init
members-init c =
    let count = c.members-count in
    let e = c.in_ok-seen.ensures.items_if_clones_equal (λ y e. e) in
    record {
      rows = c.requires.rows;
      row = c.requires.row;
      seen = ap length e ∙ length-replicate count.result false ∙ count.ensures.count;
      listed = listed_none c.new-list.ensures.items;
    }

pub climb-requires-clause-members : goal.climb-requires-clause-members
climb-requires-clause-members c =
    let count = c.members-x-end.ensures.count in
    let inside : c.members.x < length c.args.instance.now = omega (arith, count, c.members-test.true) in
    listed_push c.members.x inside c.members.invariant.listed c.in_ok-push.ensures.items

pub members-preserved : goal.members-preserved
members-preserved c =
    let whole = c.if-not-branch.false in
    record {
      rows = c.in_ok-climb.ensures.rows whole;
      row = omega arith;
      seen = c.in_ok-climb.ensures.seen whole;
      listed = c.in_ok-climb.ensures.members whole;
    }

pub index-requires : goal.index-requires
index-requires c =
    let now = c.members.seen.ok in
    omega (arith, c.members-x-end.ensures.count, c.members-test.true, c.members.invariant.seen)

pub index_mut-requires : goal.index_mut-requires
index_mut-requires c =
    let now = c.members.seen.ok in
    omega (arith, c.members-x-end.ensures.count, c.members-test.true, c.members.invariant.seen)

pub climb-requires-clause-rows : goal.climb-requires-clause-rows
climb-requires-clause-rows c = c.members.invariant.rows

pub climb-requires-clause-row : goal.climb-requires-clause-row
climb-requires-clause-row c = c.members.invariant.row

pub is_whole-requires-clause-rows : goal.is_whole-requires-clause-rows
is_whole-requires-clause-rows c = c.members.invariant.rows
