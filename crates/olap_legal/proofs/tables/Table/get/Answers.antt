-- What is read in the slot, or nothing.
use Rattle.std.proofs.Common.{refl, ap, sym, ◌∙◌}
use Rattle.olap_legal.{proofs.LayingLemmas.{cell_absent, cell_read}, specs.Slots.slot_of}
use Rattle.olap_legal.proofs.tables.Table.get.Goals as goal

pub returns-in-Some : goal.returns-in-Some
returns-in-Some c =
    let slot = c.in-Some.ensures.some in
    cell_read c.args.self.now c.requires.laid c.requires.x c.requires.d c.category-category.ensures slot.0 slot.1
    c.index.ensures c.from.ensures c.index-in-Some.ensures

pub returns-in-None : goal.returns-in-None
returns-in-None c =
    let t = c.args.self.now in
    let mine = ap (λ w. slot_of c.args.categories t.slots w c.args.d) (sym c.category-category.ensures) in
    sym (cell_absent t c.requires.laid c.requires.x c.args.d (mine ∙ c.in-None.ensures.none refl))
