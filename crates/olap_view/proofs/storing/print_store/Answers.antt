-- The printed text reads back, and stands for the store.
use Rattle.std.{proofs.Common.{arith, ◌≡◌, ◌∙◌, Ok, Err, ap, subst, sym}, specs.Prelude.{IfOk, OnOk, Result}}
use Rattle.std.specs.Result.{result_and}
use Rattle.olap_records.specs.Records.{records_of}
use Rattle.olap_view.{proofs.PrintedStoreLemmas.printed-stores, proofs.StoreTextLemmas.store-reads, specs.Seen.views_of}
use Rattle.olap_view.proofs.storing.print_store.Goals as goal

value_or : {B E : Type 0} → B → Result B E → B
value_or d (Ok v) = v
value_or d (Err e) = d

-- all was printed, and the text is there
both : {A B E : Type 0} (printed : Result A E) (text : Result B E) (v : B) (P : Type 0) (Q : B → Type 0)
    → OnOk printed P → IfOk text Q → Ok v ≡ result_and printed text → P × Q v
unfolding value_or
both (Ok a) (Ok w) v P Q p q e = (p, subst Q (ap (value_or v) (sym e)) q)
both (Ok a) (Err d) v P Q p q e = absurd (cc)
both (Err d) text v P Q p q e = absurd (cc)

pub returns-clause-text : goal.returns-clause-text
returns-clause-text c = grind (arith, both)

pub returns-clause-reads : goal.returns-clause-reads
returns-clause-reads c =
    ap records_of (returns-clause-text c) ∙ store-reads c.args.graph.now c.args.instance.now (views_of c.args.store.now)

pub returns-clause-reads_back : goal.returns-clause-reads_back
returns-clause-reads_back c = grind (arith, returns-clause-reads, printed-stores)
