-- What is beyond the category, and itself.
use Rattle.std.proofs.Common.{◌+◌, ◌<◌, length, map, subst, sym, ap}
use Rattle.olap_bits.specs.Sets.{members}
use Rattle.olap_trail.{proofs.TableLemmas.{above_is, beyond_read}, specs.Drawing.{Drawing, IsAbove, edge_of}}
use Rattle.olap_trail.proofs.drawing.Drawn.above.Goals as goal

pub returns : goal.returns
returns g c =
    let inside : x < length a.parents.items = subst (λ (v : Drawing). x < v.count) (sym c.self.view_is) c.requires in
    let beyond = beyond_read c.self.invariant x (a.place + c.from.result) r inside
    (ap (λ j. a.place + j) c.from.ensures)
    c.index.ensures in
    subst (λ (v : Drawing). IsAbove v.edges x (members c.with.result)) c.self.view_is
    (above_is (map edge_of a.edges.items) x (members r) (members c.with.result) beyond c.with.ensures)
  where
    open c use {self.inside as a, args.c.0 as x, index.result.now as r}
