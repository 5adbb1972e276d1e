use Rattle.std.proofs.Common.{◌≡◌, ◌∙◌, ◌+◌, length, refl, arith}
use Rattle.olap_instance.proofs.ListsLemmas.{ascending-at, count-lists, list-at}
use Rattle.olap_instance.proofs.lists.Lists.of.Goals as goal

pub span-from-requires-clause-place : goal.span-from-requires-clause-place
span-from-requires-clause-place g c = grind (arith, count-lists)

pub span-from-requires-clause-order : goal.span-from-requires-clause-order
span-from-requires-clause-order g c = grind (arith, count-lists, ascending-at)

pub span-from-requires-clause-within : goal.span-from-requires-clause-within
span-from-requires-clause-within g c =
    let l = rw (← c.self.view_is) at c.requires in
    let n = count-lists items starts in
    let end : c.len.result ≡ length items = c.len.ensures ∙ c.self.inside.items.ok.0 in
    rw (c.deref.ensures.value, end)
    (ascending-at (length items) starts c.args.place (c.args.place + 1) (omega arith) refl c.self.invariant).1
  where
    open c use {self.inside.items.items, self.inside.starts.items as starts}

pub returns : goal.returns
returns g c = grind (arith, count-lists, list-at)
