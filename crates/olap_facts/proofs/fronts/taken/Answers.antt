-- The header, a fact or a fault.
use Rattle.std.proofs.Common.{ap}
use Rattle.olap_facts.proofs.CountingLemmas.{counted-fact, counted-header, fact-fault, header-fault}
use Rattle.olap_facts.specs.{Seen.fact_of, declared.pending.Told.Told}
use Rattle.olap_facts.proofs.fronts.taken.Goals as goal

pub returns-then-not-is_row-clause-counts : goal.returns-then-not-is_row-clause-counts
returns-then-not-is_row-clause-counts c = λ done facts h left.
    let s = c.args.setting in
    header-fault s.most s.graph.now s.instance.now c.args.handed done facts c.args.row.now.row
    (h.fresh c.if-not-begun.true) c.is_row.result c.is_row.ensures c.if-not-is_row.true left

pub returns-then-not-begun-clause-counts : goal.returns-then-not-begun-clause-counts
returns-then-not-begun-clause-counts c = λ done facts h.
    let s = c.args.setting in
    counted-header s.most s.graph.now s.instance.now c.args.handed done facts c.args.row.now.row
    (h.fresh c.if-not-begun.true) c.is_row.result c.is_row.ensures c.if-not-is_row.false

pub returns-in-Ok-clause-counts : goal.returns-in-Ok-clause-counts
returns-in-Ok-clause-counts c = λ done facts h.
    let going = h.going c.if-not-begun.false in
    let says = c.in-Ok.ensures.fact going.rows c.args.row.now.row going.count c.nth_field.ensures
    (ap (λ (t : Told). t.is_pair) told) (ap (λ (t : Told). t.value) told) in
    counted-fact s.most s.graph.now s.instance.now c.args.handed done facts c.args.row.now.row going
    (fact_of c.in-Ok.fact) says.0 says.1
  where
    open c use {args.setting as s, told_of.ensures as told}

pub returns-in-Err-clause-counts : goal.returns-in-Err-clause-counts
returns-in-Err-clause-counts c = λ done facts h left.
    let going = h.going c.if-not-begun.false in
    fact-fault s.most s.graph.now s.instance.now c.args.handed done facts c.args.row.now.row going
    c.in-Err.kind (c.in-Err.ensures.fact going.rows c.args.row.now.row going.count c.nth_field.ensures
    (ap (λ (t : Told). t.is_pair) told) (ap (λ (t : Told). t.value) told)) left
  where
    open c use {args.setting as s, told_of.ensures as told}
