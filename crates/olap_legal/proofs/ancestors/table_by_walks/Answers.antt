-- A row more, or the first member without one.
use Rattle.std.proofs.Common.{◌≡◌, ◌<◌, length, ap, sym, subst, ◌∙◌, arith}
use Rattle.olap_legal.proofs.{JoiningLemmas.row_fits, TableLemmas.{table_start, table_step, first_split}}
use Rattle.olap_legal.specs.Rows.{IsBounded}
use Rattle.olap_legal.proofs.ancestors.table_by_walks.Goals as goal

pub members-init : goal.members-init
members-init c = record {
  table = table_start c.args.instance.now c.args.categories _ c.in_ok-table.ensures.laid;
  row = c.in_ok-row.ensures.len ∙ c.from.ensures;
}

pub rise-requires-clause-x : goal.rise-requires-clause-x
rise-requires-clause-x c = let count = c.members-x-end.ensures.count in omega (arith, count, c.members-test.true)

pub rise-requires-clause-bounded : goal.rise-requires-clause-bounded
rise-requires-clause-bounded c =
    subst (λ k. IsBounded c.args.instance.now k) (sym c.members.invariant.row) c.requires.bounded

pub put-requires-clause-x : goal.put-requires-clause-x
put-requires-clause-x c = let count = c.members-x-end.ensures.count in omega (arith, count, c.members-test.true)

pub put-requires-clause-laid : goal.put-requires-clause-laid
put-requires-clause-laid c = c.members.invariant.table.laid

pub put-requires-clause-row : goal.put-requires-clause-row
put-requires-clause-row c =
    let whole = c.in_ok-rise.ensures.whole c.if-not-branch.false in
    ap length c.deref.ensures.value ∙ whole.same_length ∙ c.members.invariant.row

pub put-requires-clause-fits : goal.put-requires-clause-fits
put-requires-clause-fits c =
    let inside : x < length i = omega (arith, c.members-x-end.ensures.count, c.members-test.true) in
    row_fits v.table.laid inside
    (rw c.deref.ensures.value (rw v.row at c.in_ok-rise.ensures.whole c.if-not-branch.false))
  where
    open c use {args.instance.now as i, members.x, members.invariant as v}

pub members-preserved : goal.members-preserved
members-preserved c =
    let inside : x < length i = omega (arith, c.members-x-end.ensures.count, c.members-test.true) in
    let rise = rw v.row at c.in_ok-rise.ensures.whole c.if-not-branch.false in
    record {
      table = table_step i n x c.members.table c.put.new.self c.deref.result.now c.requires.bounded inside v.table
          (rw c.deref.ensures.value rise) put.laid put.here put.others;
      row = omega (arith, rise.same_length, c.rise.new.row.ok);
    }
  where
    open c use {args.instance.now as i, args.categories as n, members.x, members.invariant as v, put.ensures as put}

pub returns-then-not-branch-clause-err : goal.returns-then-not-branch-clause-err
returns-then-not-branch-clause-err c =
    let s = c.in_ok-rise.ensures.split c.if-not-branch.true in
    let count = c.members-x-end.ensures.count in
    let inside : c.members.x < length c.args.instance.now = omega (arith, count, c.members-test.true) in
    first_split c.args.instance.now c.args.categories c.members.x c.members.table c.requires.bounded
    c.members.invariant.table inside s

pub returns-clause-ok : goal.returns-clause-ok
returns-clause-ok c =
    let count = c.members-x-end.ensures.count in
    let all : c.members.x ≡ length c.args.instance.now =
    omega (arith, count, c.members-test.false, c.members.auto.x-end) in
    rw all at c.members.invariant.table
