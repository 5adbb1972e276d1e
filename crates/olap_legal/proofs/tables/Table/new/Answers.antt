-- Each member has room for what it reaches, and nothing stands there.
use Rattle.std.proofs.{Common.{length, ap, ◌∙◌}, lemmas.List.length-replicate}
use Rattle.olap_legal.{proofs.LayingLemmas.{cell_empty, table_laid}, specs.Rows.none, specs.declared.tables.Table.Table}
use Rattle.olap_legal.proofs.tables.Table.new.Goals as goal

pub returns-clause-laid : goal.returns-clause-laid
returns-clause-laid c =
    let e = c.in_ok-cells.ensures.items_if_clones_equal (λ y e. e) in
    let t : Table =
    record { slots = c.in_ok-slots.slots; starts = c.in_ok-starts.starts; cells = c.in_ok-cells.cells } in
    table_laid t c.requires.few c.requires.bounded c.requires.linked c.in_ok-slots.ensures c.in_ok-starts.ensures
    (ap length e ∙ length-replicate _ none)

pub returns-clause-none : goal.returns-clause-none
returns-clause-none c = λ x d h l.
    let e = c.in_ok-cells.ensures.items_if_clones_equal (λ y e. e) in
    let t : Table =
    record { slots = c.in_ok-slots.slots; starts = c.in_ok-starts.starts; cells = c.in_ok-cells.cells } in
    let size = ap length e ∙ length-replicate _ none in
    let laid = table_laid t c.requires.few c.requires.bounded c.requires.linked c.in_ok-slots.ensures
    c.in_ok-starts.ensures size in
    cell_empty t laid h c.in_ok-starts.end d e size l
