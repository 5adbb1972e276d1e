-- A piece more, the end, and a refusal.
use Rattle.std.proofs.{Common.{◌≡◌, ◌∙◌, [], length, take, ap, arith}, lemmas.List.length-take-le}
use Rattle.std.{proofs.lemmas.Result.err_from_is_err_and, specs.Prelude.is_ok}
use Rattle.olap_base.specs.{Limits.most_facts, Refusing.IsRefusedBy}
use Rattle.olap_records.specs.Standing.{unmarked}
use Rattle.olap_cube_views.specs.{CubeFactText.cube_facts_read_within, CubeRollingUp.IsCubeRolledUp}
use Rattle.olap_cube_views.specs.{Dimensions.{categories_in, graphs_of, instances_in}, Seen.cube_view_of}
use Rattle.olap_reading.proofs.RollingLemmas.{below, ends-told, told-end}
use Rattle.olap_cubes.proofs.RollingLemmas.{fault-first, fault-more, no-memory, so-far-more}
use Rattle.olap_cubes.proofs.rolling.rolled_up_on.Goals as goal

pub returns-in_err-roller-clause-fault : goal.returns-in_err-roller-clause-fault
returns-in_err-roller-clause-fault g c =
    no-memory (graphs_of c.args.graphs.now) (instances_in c.args.columns.now)
    (g.L.Library.rest c.args.lib.now) c.from_residual.result
    c.from_residual.ensures.1

pub returns-in_err-roller-2-clause-fault : goal.returns-in_err-roller-2-clause-fault
returns-in_err-roller-2-clause-fault g c =
    let stop = err_from_is_err_and c.from_residual-in_err-roller-2.result c.from_residual-in_err-roller-2.ensures.1 in
    rw (stop.1, stop.2)
    (fault-first c.records_are_those_at_the_end.ensures (g.L.Library.rest c.args.lib.now)
    (g.L.Library.rest c.fill.new.lib) _ _ n (take n piece) c.in_err-roller-2.field-0.0
    (length-take-le n piece c.in_ok-count.ensures.bound) c.in_ok-count.ensures.bytes
    (λ l. c.in_ok-count.ensures.end (omega (arith, l, c.fill.auto.piece)))
    (λ more. rw c.without_mark.ensures at
    (c.in_err-roller-2.ensures.takes _ _ _ [] c.in_ok-roller.ensures.taken more)))
  where
    open c use {in_ok-count.count as n, fill.new.piece}

pub returns-in_err-roller-3-clause-fault : goal.returns-in_err-roller-3-clause-fault
returns-in_err-roller-3-clause-fault g c =
    let stop = err_from_is_err_and c.from_residual-in_err-roller-3.result c.from_residual-in_err-roller-3.ensures.1 in
    rw (stop.1, stop.2)
    (fault-more sf c.pieces-test.true (g.L.Library.rest c.fill-in-pieces.new.lib)
    (take c.in_ok-count-2.count c.fill-in-pieces.new.piece) c.in_ok-count-2.ensures.bytes
    c.records_are_those_at_the_end.ensures c.in_err-roller-3.field-0.0
    (c.in_err-roller-3.ensures.takes _ _ _ (unmarked sf.text) sf.taken))
  where
    open c use {pieces.invariant.so_far as sf}

pub pieces-preserved : goal.pieces-preserved
pieces-preserved g c =
    let lib = g.L.Library in
    let size : length piece ≡ 65536 = c.fill-in-pieces.auto.piece ∙ inv.size in
    let kept = c.fill-in-pieces.ensures.kept in
    record {
      so_far = so-far-more sf c.pieces-test.true (lib.rest c.fill-in-pieces.new.lib) (take n piece)
          c.in_ok-count-2.ensures.bytes n c.in_ok-roller-3.roller
          (c.in_ok-roller-3.ensures.takes _ _ _ (unmarked sf.text) sf.taken);
      end = λ l. ends-told (lib.rest c.args.lib.now) (lib.rest c.pieces.lib) (lib.rest c.fill-in-pieces.new.lib) sf.text
          sf.parts (c.in_ok-count-2.ensures.end (omega (arith, l, size)));
      most = omega (arith, c.in_ok-count-2.ensures.bound, size);
      few = λ e. c.in_ok-count-2.ensures.few (omega (arith, e, size));
      size = size;
      ready = c.fill-in-pieces.ensures.ready ∙ ap is_ok c.in_ok-count-2.was;
      later = omega (arith, inv.later, c.fill-in-pieces.ensures.cause.later);
      kept = record {
        contents = kept.contents ∙ inv.kept.contents;
        asked = kept.asked ∙ inv.kept.asked;
        sure = kept.sure ∙ inv.kept.sure;
      };
    }
  where
    open c use {pieces.invariant as inv, pieces.invariant.so_far as sf}
    open c use {fill-in-pieces.new.piece, in_ok-count-2.count as n}

pub returns-in_err-finish-clause-fault : goal.returns-in_err-finish-clause-fault
returns-in_err-finish-clause-fault g c =
    let gr = graphs_of c.args.graphs.now in
    let i = instances_in c.args.columns.now in
    let stop = err_from_is_err_and c.from_residual-in_err-finish.result c.from_residual-in_err-finish.ensures.1 in
    rw (stop.1, stop.2)
    (told-end c.records_are_those_at_the_end.ensures (λ rs. IsRefusedBy e (cube_facts_read_within most_facts gr i rs))
    (g.L.Library.rest c.args.lib.now) (g.L.Library.rest c.pieces.lib) sf.text sf.parts
    (inv.end (below c.pieces.count inv.most c.pieces-test.false))
    (c.in_err-finish.ensures.view gr i _ (unmarked sf.text) sf.taken))
  where
    open c use {pieces.invariant as inv, pieces.invariant.so_far as sf, in_err-finish.field-0.0 as e}

pub returns-clause-view : goal.returns-clause-view
returns-clause-view g c =
    let lib = g.L.Library in
    let gr = graphs_of c.args.graphs.now in
    let i = instances_in c.args.columns.now in
    let cs = categories_in c.args.columns.now in
    let view = cube_view_of c.in_ok-finish.field-0 in
    told-end c.records_are_those_at_the_end.ensures (λ rs. IsCubeRolledUp gr i rs cs view)
    (lib.rest c.args.lib.now) (lib.rest c.pieces.lib) sf.text sf.parts
    (inv.end (below c.pieces.count inv.most c.pieces-test.false))
    (c.in_ok-finish.ensures.view gr i cs (unmarked sf.text) sf.taken)
  where
    open c use {pieces.invariant as inv, pieces.invariant.so_far as sf}
