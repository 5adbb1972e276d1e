-- One record more.
use Rattle.std.{proofs.Common.{Ok, Err}, specs.Prelude.{OnOk, Result}}
use Rattle.olap_view.{proofs.StoreReadingLemmas.{tells-row, tells-view}, specs.Seen.summary_of}
use Rattle.olap_view.proofs.judging.enter.Goals as goal

on_ok : {A E P Q : Type 0} (r : Result A E) → OnOk r P → (P → Q) → OnOk r Q
on_ok (Ok a) p f = f p
on_ok (Err e) p f = p

pub put-requires-clause-member : goal.put-requires-clause-member
put-requires-clause-member c = let h = rw c.in-Row.is at c.requires.new in h.0

pub put-requires-clause-nothing : goal.put-requires-clause-nothing
put-requires-clause-nothing c = let h = rw c.in-Row.is at c.requires.new in h.1

pub returns-in-Beginning : goal.returns-in-Beginning
returns-in-Beginning c =
    on_ok c.begin.result c.begin.ensures.categories
    (λ more g i earlier r t b. tells-view g i earlier r c.args.table.now c.begin.new.self t c.in-Beginning.c.0 more
    c.begin.ensures.places c.begin.ensures.summaries (rw c.in-Beginning.is at b))

pub returns-in-Row : goal.returns-in-Row
returns-in-Row c =
    on_ok c.put.result c.put.ensures
    (λ put g i earlier r t b. tells-row g i earlier r c.args.table.now c.put.new.self t c.in-Row.member.0
    (summary_of c.in-Row.summary) put (rw c.in-Row.is at b))
