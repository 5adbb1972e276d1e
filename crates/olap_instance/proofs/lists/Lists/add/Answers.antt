use Rattle.std.proofs.{Common.{◌≡◌, ◌∙◌, ◌++◌, ◌∷◌, [], ap, length, arith}, lemmas.List.length-append}
use Rattle.olap_instance.proofs.ListsLemmas.{ascending-begin, ascending-more, lists-begin, lists-more}
use Rattle.olap_instance.proofs.lists.Lists.add.Goals as goal

pub invariant_of-self-2 : goal.invariant_of-self-2
invariant_of-self-2 g c = grind (arith, length-append, ascending-more, ascending-begin)

pub returns-clause-ok : goal.returns-clause-ok
returns-clause-ok g c =
    let e : c.len-end.result ≡ length items = c.len-end.ensures ∙ c.self.inside.items.ok.0 in
    let now = c.in_ok-push.ensures.items ∙ ap (λ n. c.reserve.new.self.items ++ n ∷ []) e
    ∙ ap (λ ss. ss ++ length items ∷ []) c.reserve.ensures.items in
    let more : c.extend_from_slice.new.self.items ≡ items ++ c.args.items.now =
    c.in_ok-extend_from_slice.ensures.items in
    rw (← c.self.view_is, now, more)
    (lists-more items c.args.items.now (starts ++ length items ∷ []) _ []
    (ascending-begin (length items) starts c.self.invariant) (lists-begin items starts))
  where
    open c use {self.inside.items.items, self.inside.starts.items as starts}
