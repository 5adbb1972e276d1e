-- What is beyond the category.
use Rattle.std.proofs.Common.{◌+◌, ◌<◌, ◌∙◌, length, subst, sym, ap, inl, inr}
use Rattle.olap_bits.specs.Sets.{members}
use Rattle.olap_trail.{proofs.TableLemmas.beyond_read, specs.Drawing.{Drawing, IsBeyond}}
use Rattle.olap_trail.proofs.drawing.Drawn.reaches.Goals as goal

pub returns-else-c-d : goal.returns-else-c-d
returns-else-c-d g c =
    let inside : x < length a.parents.items = subst (λ (v : Drawing). x < v.count) (sym c.self.view_is) c.requires in
    let beyond = subst (λ (v : Drawing). IsBeyond v.edges x (members r)) c.self.view_is
    (beyond_read c.self.invariant x (a.place + c.from.result) r inside (ap (λ j. a.place + j) c.from.ensures)
    c.index.ensures) in (
      λ h. inr ((beyond y).0 (sym c.has.ensures ∙ h)),
      λ o. elim o [ inl e ↦ absurd (c.if-c-d.false e) | inr w ↦ c.has.ensures ∙ (beyond y).1 w ],
    )
  where
    open c use {self.inside as a, args.c.0 as x, args.d.0 as y, index.result.now as r}
