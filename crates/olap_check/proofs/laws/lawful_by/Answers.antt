-- The first violation of each law, where the laws before it hold.
use Rattle.std.proofs.Common.{refl}
use Rattle.olap_check.proofs.FirstLemmas.{all_five, links, report1, report2, report3, report4, report5, strata_of}
use Rattle.olap_check.proofs.laws.lawful_by.Goals as goal

pub returns-in-Some-clause-err : goal.returns-in-Some-clause-err
returns-in-Some-clause-err c =
    report1 c.args.instance.now c.args.categories c.args.edges.now c.requires.bounded c.args.graph.now c.requires.edges
    c.in-Some.x c.in-Some.k c.parent-above.result c.in-Some.ensures.some c.parent-above.ensures

pub returns-in-Some-first_orphan-clause-err : goal.returns-in-Some-first_orphan-clause-err
returns-in-Some-first_orphan-clause-err c =
    let orphan = c.in-Some-first_orphan in
    report2 c.args.instance.now c.args.categories c.args.edges.now c.requires.bounded c.args.graph.now c.requires.edges
    (c.in_default.ensures.none refl) orphan.x orphan.ensures.some

pub first_repeated-requires-clause-linked : goal.first_repeated-requires-clause-linked
first_repeated-requires-clause-linked c =
    links c.args.instance.now c.args.categories c.args.edges.now c.requires.bounded (c.in_default.ensures.none refl)
    c.args.graph.now c.requires.edges

pub returns-in-Some-2-clause-err : goal.returns-in-Some-2-clause-err
returns-in-Some-2-clause-err c =
    let first = rw c.in-Some-2.is at c.in_ok-x.ensures.some in
    report3 c.args.instance.now c.args.categories c.args.edges.now c.requires.bounded c.args.graph.now c.requires.edges
    (c.in_default.ensures.none refl) (c.in_default-first_orphan.ensures.none refl) c.in-Some-2.x first

pub ancestor_table-requires-clause-linked : goal.ancestor_table-requires-clause-linked
ancestor_table-requires-clause-linked c =
    links c.args.instance.now c.args.categories c.args.edges.now c.requires.bounded (c.in_default.ensures.none refl)
    c.args.graph.now c.requires.edges

pub split_category-requires-clause-strata : goal.split_category-requires-clause-strata
split_category-requires-clause-strata c =
    let strata = (rw c.in_default-2.is at c.in_ok-x.ensures.none) refl in
    strata_of c.args.instance.now c.args.categories c.args.edges.now c.requires.bounded strata

pub returns-in-Err-clause-err : goal.returns-in-Err-clause-err
returns-in-Err-clause-err c =
    let strata = (rw c.in_default-2.is at c.in_ok-x.ensures.none) refl in
    let split = rw c.in-Err.is at c.in_ok-table.ensures.err in
    let least = c.in_ok-category-in-Err.ensures in
    report4 c.args.instance.now c.args.categories c.args.edges.now c.requires.bounded c.args.graph.now c.requires.edges
    (c.in_default.ensures.none refl) (c.in_default-first_orphan.ensures.none refl) strata c.in-Err.x
    c.in_ok-category-in-Err.category split least

pub first_shortcut-requires-clause-strata : goal.first_shortcut-requires-clause-strata
first_shortcut-requires-clause-strata c =
    let strata = (rw c.in_default-2.is at c.in_ok-x.ensures.none) refl in
    strata_of c.args.instance.now c.args.categories c.args.edges.now c.requires.bounded strata

pub returns-in-Some-first_shortcut-clause-err : goal.returns-in-Some-first_shortcut-clause-err
returns-in-Some-first_shortcut-clause-err c =
    let strata = (rw c.in_default-2.is at c.in_ok-x.ensures.none) refl in
    let table = rw c.in-Ok.is at c.in_ok-table.ensures.ok in
    report5 c.args.instance.now c.args.categories c.args.edges.now c.requires.bounded c.args.graph.now c.requires.edges
    (c.in_default.ensures.none refl) (c.in_default-first_orphan.ensures.none refl) strata c.in-Ok.table table first.x
    first.k above.result first.ensures.some above.ensures
  where
    open c use {in-Some-first_shortcut as first, parent-above-in-Some-first_shortcut as above}

pub returns-clause-table : goal.returns-clause-table
returns-clause-table c = rw c.in-Ok.is at c.in_ok-table.ensures.ok

pub returns-clause-lawful : goal.returns-clause-lawful
returns-clause-lawful c =
    let strata = (rw c.in_default-2.is at c.in_ok-x.ensures.none) refl in
    let table = rw c.in-Ok.is at c.in_ok-table.ensures.ok in
    all_five c.args.instance.now c.args.categories c.args.edges.now c.requires.bounded (c.in_default.ensures.none refl)
    (c.in_default-first_orphan.ensures.none refl) strata c.in-Ok.table table
    (c.in_default-first_shortcut.ensures.none refl) c.args.graph.now c.requires.edges
