-- The search for a category that no member has marks all that is above x.
use Rattle.std.proofs.Common.{◌≡◌, length, arith}
use Rattle.olap_graph.proofs.MarkLemmas.{no_items, none_case}
use Rattle.olap_legal.proofs.{MarkingLemmas.{marking_smaller, whole_marking}, ParentLemmas.taken}
use Rattle.olap_check.proofs.SearchLemmas.{closed_start, unmarked_start}
use Rattle.olap_check.proofs.SplitLemmas.{climbing_start, climbing_next, climbing_done}
use Rattle.olap_check.proofs.parting.above.Goals as goal

pub listed-init : goal.listed-init
listed-init c =
    let e = c.in_ok-seen.ensures.items_if_clones_equal (λ y e. e) in
    let closed = closed_start c.args.instance.now n count.result c.in_ok-seen.seen.items e count.ensures.count in
    let none = unmarked_start count.result c.in_ok-seen.seen.items e in
    let marked = whole_marking c.args.x c.requires.bounded c.in_ok-_first.ensures in
    climbing_start c.args.x c.requires.bounded closed none c.new-list.ensures.items marked
  where
    open c use {args.categories as n, members-count as count}

pub mark-requires-in-Some-clause-z : goal.mark-requires-in-Some-clause-z
mark-requires-in-Some-clause-z c =
    (c.listed.invariant.search.listed c.in-Some.z (taken c.pop.new.self.items c.in-Some.z c.in-Some.ensures.items)).0

pub listed-preserved : goal.listed-preserved
listed-preserved c =
    let marked = whole_marking c.in-Some.z c.requires.bounded c.in_ok-_whole.ensures in
    climbing_next c.pop.new.self.items c.in-Some.z c.requires.bounded c.listed.invariant c.in-Some.ensures.items marked

pub listed-smaller : goal.listed-smaller
listed-smaller c =
    let marked = whole_marking c.in-Some.z c.requires.bounded c.in_ok-_whole.ensures in
    marking_smaller c.pop.new.self.items c.in-Some.z c.in-Some.ensures.items marked

pub returns : goal.returns
returns c =
    let n = none_case c.pop.result _ _ c.in_default.not-Some c.pop.ensures.cases in
    let o = c.listed.list.ok in
    let e : length c.listed.list.items ≡ 0 = let m = n.0 in omega arith in
    climbing_done c.listed.invariant (no_items c.listed.list.items e)
