-- A listed member waits for those above it, or gets its row.
use Rattle.std.proofs.Common.{arith}
use Rattle.olap_legal.proofs.{JoiningLemmas.listed_rest, ParentLemmas.{taken, taken_fewer}}
use Rattle.olap_legal.proofs.joining.climb.Goals as goal

pub is_ready-requires-clause-z : goal.is_ready-requires-clause-z
is_ready-requires-clause-z c =
    c.listed.invariant.listed.each c.in-Some.z (taken c.pop.new.self.items c.in-Some.z c.in-Some.ensures.items)

pub is_ready-requires-clause-members : goal.is_ready-requires-clause-members
is_ready-requires-clause-members c =
    listed_rest c.pop.new.self.items c.in-Some.z c.in-Some.ensures.items c.listed.invariant.listed

pub give_row-requires-clause-z : goal.give_row-requires-clause-z
give_row-requires-clause-z c =
    c.listed.invariant.listed.each c.in-Some.z (taken c.pop.new.self.items c.in-Some.z c.in-Some.ensures.items)

pub listed-smaller : goal.listed-smaller
listed-smaller c =
    let f = c.in_ok-is_ready.ensures.fewer in
    omega (arith, f, taken_fewer c.pop.new.self.items c.in-Some.z c.in-Some.ensures.items)

pub listed-smaller-then-not-branch : goal.listed-smaller-then-not-branch
listed-smaller-then-not-branch c =
    let f = c.in_ok-is_ready.ensures.fewer in
    omega (arith, f, taken_fewer c.pop.new.self.items c.in-Some.z c.in-Some.ensures.items)

pub listed-preserved-then-not-branch : goal.listed-preserved-then-not-branch
listed-preserved-then-not-branch c = record {
  rows = c.listed.invariant.rows;
  row = c.listed.invariant.row;
  seen = c.in_ok-is_ready.ensures.seen;
  listed = c.in_ok-is_ready.ensures.members;
}

pub listed-preserved : goal.listed-preserved
listed-preserved c = record {
  rows = c.give_row.ensures c.if-not-give_row.false;
  row = omega arith;
  seen = c.in_ok-is_ready.ensures.seen;
  listed = c.in_ok-is_ready.ensures.members;
}
