use Rattle.std.proofs.Common.{◌≤◌, inl, inr, arith}
use Rattle.olap_dimsat.proofs.fitting.names_end.Goals.{then-own-end, else-own-end}
use Rattle.olap_base.proofs.GeneralLemmas.{below_or_same}
use Rattle.olap_dimsat.proofs.fitting.names_end.Goals as goal

pub categories-preserved : goal.categories-preserved
categories-preserved c = λ d j h t.
    let a = c.args.a.now in
    let old : c.categories.end ≤ c.if-own-end.end = elim c.if-own-end.branch [
      | then-own-end w ↦ let is = w.end-is in let more = w.if-own-end.true in omega arith
      | else-own-end w ↦ let is = w.end-is in omega arith
    ] in
    let own : c.end_of-own.result ≤ c.if-own-end.end = elim c.if-own-end.branch [
      | then-own-end w ↦ let is = w.end-is in omega arith
      | else-own-end w ↦ let is = w.end-is in let less = w.if-own-end.false in omega arith
    ] in
    elim (below_or_same d c.categories.c h) [
      | inl l ↦ let b = c.categories.invariant d j l t in omega (arith, old, b)
      | inr q ↦
          let b = c.end_of-own.ensures j (rw (← q) t) in
          rw q (omega (arith, own, b))
    ]

pub returns : goal.returns
returns c = λ d j h t.
    let count = c.categories-c-end.ensures.count in
    let end = c.categories-test.false in
    c.categories.invariant d j (omega (arith, h, count, end)) t
