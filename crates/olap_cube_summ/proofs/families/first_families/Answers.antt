use Rattle.std.proofs.{Common.{◌+◌, drop, sym}, lemmas.List.take_rest}
use Rattle.olap_cube_summ.proofs.FamilyLemmas.{are_first, by_one_more, greedy_next, sets_from, some_family}
use Rattle.olap_cube_summ.specs.Masks.{all_of}
use Rattle.olap_cube_summ.proofs.families.first_families.Goals as goal

pub first_family-family-requires-clause-some : goal.first_family-family-requires-clause-some
first_family-family-requires-clause-some c =
    some_family _ _ c.args.sets.now _ _ _ _ _ _ c.dimensions-test.true (sym c.index-dimensions-i.is) c.items.ensures
    c.dimensions.invariant.unions c.deref.ensures.value (take_rest c.args.sets.now (c.dimensions.i + 1))
    c.dimensions.invariant.bad

pub dimensions-preserved : goal.dimensions-preserved
dimensions-preserved c =
    let rest = drop (i + 1) c.args.sets.now in
    let left = take_rest c.args.sets.now (i + 1) in
    let e = sym c.index-dimensions-i.is in
    let s = sets_from all c.args.sets.now i d c.dimensions-test.true e c.dimensions.invariant.unions in
    record {
      greedy = λ xs g. rw c.in_ok-push-2.ensures.items
          (greedy_next n all i c.dimensions.done.items c.dimensions.first.items d rest c.first_family-family.result
          c.dimensions-test.true e (rw e at (c.requires.ordered i d c.dimensions-test.true)) s.rest
          (rw c.items.ensures at c.first_family-family.ensures.is_one)
          (λ y k b. c.first_family-family.ensures.first y (rw c.items.ensures k) (rw (c.deref.ensures.value, left) b))
          c.dimensions.invariant.greedy xs (rw c.in_ok-push.ensures.items at g));
      unions = s.rest;
      bad = by_one_more n c.deref.result.now c.dimensions.done.items _ rest c.push.new.self.items c.deref.ensures.value
          left _ c.in_ok-push.ensures.items (all_of n) c.first_family-family.ensures.bad;
    }
  where
    open c use {args.sources as n, args.dimensions.now as all, dimensions.i, index-dimensions-i.result as d}

pub returns : goal.returns
returns c = rw c.from_vec.ensures
    (are_first _ _ c.requires.ordered c.dimensions.i _ _ c.dimensions.first.items c.dimensions-test.false
    c.dimensions.invariant.unions c.dimensions.invariant.bad c.dimensions.invariant.greedy)

pub dimensions-init : goal.dimensions-init
dimensions-init c = record {
  greedy = λ xs g. rw c.new-first.ensures.items (rw c.new-done.ensures.items at g);
  unions = c.requires.sets;
  bad = rw c.new-done.ensures.items c.requires.bad;
}

pub first_family-family-requires-clause-few : goal.first_family-family-requires-clause-few
first_family-family-requires-clause-few c = c.requires.few

pub first_family-family-requires-clause-ordered : goal.first_family-family-requires-clause-ordered
first_family-family-requires-clause-ordered c = rw (c.items.ensures, c.index-dimensions-i.is)
    (c.requires.ordered c.dimensions.i c.index-dimensions-i.result c.dimensions-test.true)
