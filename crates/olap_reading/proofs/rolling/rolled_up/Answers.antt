-- A piece more, the end, and a refusal.
use Rattle.std.proofs.Common.{◌≡◌, ◌<◌, ◌++◌, ◌∙◌, [], ℕ, List, length, take, inl, ap, arith, subst}
use Rattle.std.{proofs.lemmas.List.length-take-le, proofs.lemmas.Result.err_from_is_err_and, specs.Prelude.is_ok}
use Rattle.olap_base.specs.{Limits.most_facts, Refusing.IsRefusedBy}
use Rattle.olap_records.specs.Standing.{records_fed, unmarked}
use Rattle.olap_facts.specs.FactText.{facts_read_within}
use Rattle.olap_outside.specs.Pieces.{EndsTold}
use Rattle.olap_view.specs.{RollingUp.{AreRolledUp, HasTaken}, Seen.{each_view_of, ids}}
use Rattle.olap_reading.proofs.RollingLemmas.{below, ends-told, long-or-end, longer, mark-joined, no-memory, parts-more, told-end, told-fault}
use Rattle.olap_reading.proofs.rolling.rolled_up.Goals as goal

pub returns-in_err-roller-clause-fault : goal.returns-in_err-roller-clause-fault
returns-in_err-roller-clause-fault g c =
    no-memory c.args.graph.now c.args.legal.now (g.L.Library.rest c.args.lib.now) c.from_residual.result
    c.from_residual.ensures.1

pub returns-in_err-roller-2-clause-fault : goal.returns-in_err-roller-2-clause-fault
returns-in_err-roller-2-clause-fault g c =
    let lib = g.L.Library in
    let size : length piece ≡ 65536 = c.fill.auto.piece in
    let end : n < 65536 → EndsTold (lib.rest c.args.lib.now) (lib.rest c.fill.new.lib) =
    λ l. c.in_ok-count.ensures.end (omega (arith, l, size)) in
    let stop = err_from_is_err_and c.from_residual-in_err-roller-2.result c.from_residual-in_err-roller-2.ensures.1 in
    rw (stop.1, stop.2)
    (told-fault c.records_are_those_at_the_end.ensures (λ rs. IsRefusedBy e (facts_read_within most_facts gr i rs))
    (lib.rest c.args.lib.now) (lib.rest c.fill.new.lib) (take n piece) c.in_ok-count.ensures.bytes
    (long-or-end (lib.rest c.args.lib.now) (lib.rest c.fill.new.lib) (take n piece) n
    (length-take-le n piece c.in_ok-count.ensures.bound) end)
    (λ more. subst (λ (xs : List ℕ). IsRefusedBy e (facts_read_within most_facts gr i (records_fed (xs ++ more))))
    c.without_mark.ensures
    (c.in_err-roller-2.ensures.takes gr i (ids c.args.categories.now) [] c.in_ok-roller.ensures.taken more)))
  where
    open c use {
      args.graph.now as gr,
      args.legal.now as i,
      in_ok-count.count as n,
      fill.new.piece,
      in_err-roller-2.field-0.0 as e,
    }

pub pieces-init : goal.pieces-init
pieces-init g c =
    let cs = ids c.args.categories.now in
    let size : length piece ≡ 65536 = c.fill.auto.piece in
    let bound = c.in_ok-count.ensures.bound in
    let cut = length-take-le n piece bound in
    record {
      so_far = record {
        text = take n piece;
        parts = c.in_ok-count.ensures.bytes;
        long = λ e. omega (arith, e, cut);
        taken = subst (λ (fed : List ℕ). HasTaken gr i cs fed c.in_ok-roller-2.roller) c.without_mark.ensures
            (c.in_ok-roller-2.ensures.takes gr i cs [] c.in_ok-roller.ensures.taken);
      };
      end = λ l. c.in_ok-count.ensures.end (omega (arith, l, size));
      most = omega (arith, bound, size);
      few = λ e. c.in_ok-count.ensures.few (omega (arith, e));
      size = size;
      ready = c.fill.ensures.ready ∙ ap is_ok c.in_ok-count.was;
      later = c.fill.ensures.cause.later;
      kept = c.fill.ensures.kept;
    }
  where
    open c use {args.graph.now as gr, args.legal.now as i, in_ok-count.count as n, fill.new.piece}

pub returns-in_err-roller-3-clause-fault : goal.returns-in_err-roller-3-clause-fault
returns-in_err-roller-3-clause-fault g c =
    let lib = g.L.Library in
    let b = take c.in_ok-count-2.count c.fill-in-pieces.new.piece in
    let long = sf.long c.pieces-test.true in
    let stop = err_from_is_err_and c.from_residual-in_err-roller-3.result c.from_residual-in_err-roller-3.ensures.1 in
    rw (stop.1, stop.2)
    (told-fault c.records_are_those_at_the_end.ensures (λ rs. IsRefusedBy e (facts_read_within most_facts gr i rs))
    (lib.rest c.args.lib.now) (lib.rest c.fill-in-pieces.new.lib) (sf.text ++ b)
    (parts-more (lib.rest c.args.lib.now) (lib.rest c.pieces.lib) (lib.rest c.fill-in-pieces.new.lib) sf.text b
    sf.parts c.in_ok-count-2.ensures.bytes)
    (inl (longer sf.text b long))
    (λ more. subst (λ (xs : List ℕ). IsRefusedBy e (facts_read_within most_facts gr i (records_fed (xs ++ more))))
    (mark-joined sf.text b long)
    (c.in_err-roller-3.ensures.takes gr i (ids c.args.categories.now) (unmarked sf.text) sf.taken more)))
  where
    open c use {
      args.graph.now as gr,
      args.legal.now as i,
      pieces.invariant.so_far as sf,
      in_err-roller-3.field-0.0 as e,
    }

pub pieces-preserved : goal.pieces-preserved
pieces-preserved g c =
    let lib = g.L.Library in
    let cs = ids c.args.categories.now in
    let b = take c.in_ok-count-2.count piece in
    let long = sf.long c.pieces-test.true in
    let size : length piece ≡ 65536 = c.fill-in-pieces.auto.piece ∙ inv.size in
    let kept = c.fill-in-pieces.ensures.kept in
    record {
      so_far = record {
        text = sf.text ++ b;
        parts = parts-more (lib.rest c.args.lib.now) (lib.rest c.pieces.lib) (lib.rest c.fill-in-pieces.new.lib)
            sf.text b sf.parts c.in_ok-count-2.ensures.bytes;
        long = λ e. longer sf.text b long;
        taken = subst (λ (fed : List ℕ). HasTaken gr i cs fed c.in_ok-roller-3.roller) (mark-joined sf.text b long)
            (c.in_ok-roller-3.ensures.takes gr i cs (unmarked sf.text) sf.taken);
      };
      end = λ l. ends-told (lib.rest c.args.lib.now) (lib.rest c.pieces.lib) (lib.rest c.fill-in-pieces.new.lib) sf.text
          sf.parts (c.in_ok-count-2.ensures.end (omega (arith, l, size)));
      most = omega (arith, c.in_ok-count-2.ensures.bound, size);
      few = λ e. c.in_ok-count-2.ensures.few (omega (arith, e));
      size = size;
      ready = c.fill-in-pieces.ensures.ready ∙ ap is_ok c.in_ok-count-2.was;
      later = omega (arith, inv.later, c.fill-in-pieces.ensures.cause.later);
      kept = record {
        contents = kept.contents ∙ inv.kept.contents;
        asked = kept.asked ∙ inv.kept.asked;
        sure = kept.sure ∙ inv.kept.sure;
      };
    }
  where
    open c use {
      args.graph.now as gr,
      args.legal.now as i,
      pieces.invariant as inv,
      pieces.invariant.so_far as sf,
      fill-in-pieces.new.piece,
    }

pub returns-in_err-finish-clause-fault : goal.returns-in_err-finish-clause-fault
returns-in_err-finish-clause-fault g c =
    let lib = g.L.Library in
    let stop = err_from_is_err_and c.from_residual-in_err-finish.result c.from_residual-in_err-finish.ensures.1 in
    rw (stop.1, stop.2)
    (told-end c.records_are_those_at_the_end.ensures (λ rs. IsRefusedBy e (facts_read_within most_facts gr i rs))
    (lib.rest c.args.lib.now) (lib.rest c.pieces.lib) sf.text sf.parts
    (inv.end (below c.pieces.count inv.most c.pieces-test.false))
    (c.in_err-finish.ensures.views gr i (ids c.args.categories.now) (unmarked sf.text) sf.taken))
  where
    open c use {
      args.graph.now as gr,
      args.legal.now as i,
      pieces.invariant as inv,
      pieces.invariant.so_far as sf,
      in_err-finish.field-0.0 as e,
    }

pub returns-clause-views : goal.returns-clause-views
returns-clause-views g c =
    let lib = g.L.Library in
    let cs = ids c.args.categories.now in
    let views = each_view_of c.in_ok-finish.field-0 in
    told-end c.records_are_those_at_the_end.ensures (λ rs. AreRolledUp gr i rs cs views)
    (lib.rest c.args.lib.now) (lib.rest c.pieces.lib) sf.text sf.parts
    (inv.end (below c.pieces.count inv.most c.pieces-test.false))
    (c.in_ok-finish.ensures.views gr i cs (unmarked sf.text) sf.taken)
  where
    open c use {args.graph.now as gr, args.legal.now as i, pieces.invariant as inv, pieces.invariant.so_far as sf}
