-- The slots of one category more.
use Rattle.std.proofs.Common.{◌≡◌, ◌*◌, drop, length, get_or, ap, sym, ◌∙◌, arith}
use Rattle.std.proofs.lemmas.List.{length-replicate, take_at}
use Rattle.olap_legal.proofs.SlotLemmas.{row_within, slots_more, slots_none}
use Rattle.olap_legal.proofs.slots.Slots.of.Goals as goal

pub categories-init : goal.categories-init
categories-init c =
    let e = c.in_ok-slots.ensures.items_if_clones_equal (λ y e. e) in
    let o = c.in_ok-order.ensures.items_if_clones_equal (λ y e. e) in
    slots_none c.args.graph.now e (ap length o ∙ length-replicate _ 0)
    (λ j. c.from-width.ensures j * c.from-width.ensures j) c.in_ok-counts.ensures.items

pub list_reached-count-requires-clause-room : goal.list_reached-count-requires-clause-room
list_reached-count-requires-clause-room c =
    let v = c.categories.invariant in
    row_within c.categories-test.true (λ j. c.from.ensures j * c.from-width.ensures j)
    (ap length c.deref_mut.ensures.value ∙ v.slots_size)

pub list_reached-count-requires-clause-same : goal.list_reached-count-requires-clause-same
list_reached-count-requires-clause-same c =
    let v = c.categories.invariant in
    ap length c.deref_mut-in-categories.ensures.value ∙ v.order_size ∙ sym v.slots_size
    ∙ sym (ap length c.deref_mut.ensures.value)

pub list_reached-count-requires-clause-fresh : goal.list_reached-count-requires-clause-fresh
list_reached-count-requires-clause-fresh c = λ k h l.
    let v = c.categories.invariant in
    ap (λ w. get_or w k 0) c.deref_mut.ensures.value
    ∙ v.behind k (rw (c.from.ensures, c.from-width.ensures) at h) (rw c.deref_mut.ensures.value at l)

pub categories-preserved : goal.categories-preserved
categories-preserved c =
    let more = slots_more c.requires.few c.categories-test.true v (λ j. c.from.ensures j * c.from-width.ensures j)
    (rw slots_is at listed.length) ((rw slots_is at listed.same) ∙ v.slots_size ∙ sym v.order_size)
    (rw slots_is at listed.slots) (rw order_is at listed.order) listed.listed in
    let slots_now = take_at slots (drop (length slots) c.categories.slots.items) c.categories.slots.len
    (listed.length ∙ c.deref_mut.ensures.len) in
    let order_now = take_at order (drop (length order) c.categories.order.items) c.categories.order.len
    (listed.same ∙ ap length slots_is ∙ v.slots_size ∙ sym v.order_size ∙ sym (ap length order_is)
    ∙ c.deref_mut-in-categories.ensures.len) in
    rw (slots_now, order_now, c.in_ok-push.ensures.items) more
  where
    open c use {
      categories.invariant as v,
      list_reached-count.ensures as listed,
      list_reached-count.new.slots,
      list_reached-count.new.order,
      deref_mut.ensures.value as slots_is,
      deref_mut-in-categories.ensures.value as order_is,
    }

pub returns : goal.returns
returns c =
    let all : c.categories.c ≡ c.args.categories = omega (arith, c.categories-test.false, c.categories.auto.c-end) in
    rw all at c.categories.invariant
