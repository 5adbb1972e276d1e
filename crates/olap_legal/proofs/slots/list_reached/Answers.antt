-- A category is reached, and has a slot, or has none.
use Rattle.std.proofs.Common.{◌+◌, arith, refl, sym, ◌∙◌, true≢false, get_or-set_other}
use Rattle.olap_base.specs.Graph.{CategoryReaches}
use Rattle.olap_legal.proofs.SlotLemmas.{listing_more, listing_none, listing_skip}
use Rattle.olap_legal.proofs.slots.list_reached.Goals as goal

pub categories-init : goal.categories-init
categories-init c = record {
  listing = listing_none c.args.graph.now c.args.c c.args.categories c.args.base c.args.slots.now c.args.order.now
      c.requires.room c.requires.fresh;
  slots = λ k h. refl;
  order = λ k h. refl;
}

pub categories-preserved-then-not-reaches : goal.categories-preserved-then-not-reaches
categories-preserved-then-not-reaches c =
    let v = c.categories.invariant in
    let apart = λ (r : CategoryReaches c.args.graph.now c.args.c c.categories.d).
    true≢false (sym (c.reaches.ensures.1 r) ∙ c.if-not-reaches.true) in
    record { listing = listing_skip v.listing apart; slots = v.slots; order = v.order }

pub categories-preserved : goal.categories-preserved
categories-preserved c =
    let more = listing_more v.listing c.requires.few c.categories-test.true
    (omega (arith, c.requires.room, c.categories.auto.slots))
    (c.categories.auto.order ∙ c.requires.same ∙ sym c.categories.auto.slots) in
    record {
      listing = rw (c.from.ensures, c.from-in-categories.ensures) more;
      slots = λ k h. get_or-set_other slots (base + c.from.result) k count 0 (omega (arith, h)) ∙ v.slots k h;
      order = λ k h. get_or-set_other order (base + c.from-in-categories.result) k d 0 (omega (arith, h)) ∙ v.order k h;
    }
  where
    open c use {
      categories.invariant as v,
      categories.d,
      categories.count,
      categories.slots,
      categories.order,
      args.base,
    }
