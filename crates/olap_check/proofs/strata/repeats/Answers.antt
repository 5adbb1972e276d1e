-- The search from one member, over marks that are closed.
use Rattle.std.proofs.Common.{◌≡◌, length, arith}
use Rattle.olap_graph.proofs.MarkLemmas.{no_items, none_case}
use Rattle.olap_legal.proofs.{MarkingLemmas.marking_smaller, ParentLemmas.taken}
use Rattle.olap_check.proofs.SearchLemmas.{search_start, search_next, search_hits, start_hits, search_done, found_far, found_none}
use Rattle.olap_check.proofs.strata.repeats.Goals as goal

pub listed-init : goal.listed-init
listed-init c =
    let marked = c.in_ok-whole.ensures.marked c.if-not-whole.false in
    search_start c.args.x c.requires.places c.requires.closed c.new-list.ensures.items marked

pub mark-requires-in-Some-clause-z : goal.mark-requires-in-Some-clause-z
mark-requires-in-Some-clause-z c =
    (c.listed.invariant.listed c.in-Some.z (taken c.pop.new.self.items c.in-Some.z c.in-Some.ensures.items)).0

pub listed-preserved : goal.listed-preserved
listed-preserved c =
    let marked = c.in_ok-passed.ensures.marked c.if-not-passed.false in
    let rest = c.pop.new.self.items in
    search_next c.args.x c.requires.places rest c.in-Some.z c.listed.invariant c.in-Some.ensures.items marked

pub listed-smaller : goal.listed-smaller
listed-smaller c =
    let marked = c.in_ok-passed.ensures.marked c.if-not-passed.false in
    marking_smaller c.pop.new.self.items c.in-Some.z c.in-Some.ensures.items marked

pub returns-then-not-whole : goal.returns-then-not-whole
returns-then-not-whole c =
    found_far (start_hits c.args.x c.requires.places (c.in_ok-whole.ensures.hit c.if-not-whole.true))

pub returns-then-not-passed : goal.returns-then-not-passed
returns-then-not-passed c =
    let hit = c.in_ok-passed.ensures.hit c.if-not-passed.true in
    let rest = c.pop.new.self.items in
    found_far (search_hits c.args.x c.requires.places rest c.in-Some.z c.listed.invariant c.in-Some.ensures.items hit)

pub returns : goal.returns
returns c =
    let n = none_case c.pop.result _ _ c.in_default.not-Some c.pop.ensures.cases in
    let o = c.listed.list.ok in
    let e : length c.listed.list.items ≡ 0 = let m = n.0 in omega arith in
    found_none (search_done c.listed.invariant (no_items c.listed.list.items e))
