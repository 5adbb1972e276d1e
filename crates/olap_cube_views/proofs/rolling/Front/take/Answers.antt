-- A record more, or none in the rest of the piece.
use Rattle.std.proofs.Common.{◌∷◌, ◌++◌, ◌+◌, ◌∙◌, [], length, take, ap, arith, length-drop}
use Rattle.std.proofs.lemmas.{Bool.{not-false, not-true}, Result.err_from_is_err_and}
use Rattle.olap_base.{proofs.ListLemmas.rest_is, specs.Limits.most_facts, specs.Refusing.IsRefusedBy}
use Rattle.olap_cube_views.{proofs.CubeFeedLemmas.{taken-none, taken-one}, specs.CubeFactText.cube_facts_read_within}
use Rattle.olap_cube_views.specs.Dimensions.{graphs_of, instances_in}
use Rattle.olap_facts.proofs.FeedLemmas.{no-cut, one-cut, stands-end, stands-on, whatever-comes}
use Rattle.olap_cube_views.proofs.rolling.Front.take.Goals as goal

pub returns-then-not-cut-clause-takes : goal.returns-then-not-cut-clause-takes
returns-then-not-cut-clause-takes c = λ target fed h.
    let g = c.records.invariant.taken target fed h in
    let missing = not-true _ c.if-not-cut.true in
    let s = c.records.self.splitter.stands in
    let none = no-cut piece at n c.in_ok-cut.cut.found new.row s new.stands c.in_ok-cut.ensures.stands missing in
    let all = c.in_ok-cut.ensures.all missing ∙ ap length (rest_is at piece) in
    taken-none g (fed ++ piece) new.stands
    (stands-end fed piece at n g.done s new.stands g.stands_at none (omega (arith, all, length-drop at piece)))
  where
    open c use {args.piece.now as piece, records.at, in_ok-cut.cut.taken as n, next.new.self as new}

pub returns-in_err-add_record-clause-takes : goal.returns-in_err-add_record-clause-takes
returns-in_err-add_record-clause-takes c = λ target fed h.
    let g = c.records.invariant.taken target fed h in
    let s = c.records.self.splitter.stands in
    let one = one-cut piece at n c.in_ok-cut.cut.found new.row s new.stands c.in_ok-cut.ensures.stands
    (not-false _ c.if-not-cut.false) in
    let stands = stands-on fed piece at n g.done (new.row ∷ []) s new.stands g.stands_at one in
    let said = c.from_residual-in_err-add_record in let stop = err_from_is_err_and said.result said.ensures.1 in
    rw (stop.1, stop.2) (whatever-comes (λ rs. IsRefusedBy c.in_err-add_record.field-0.0
    (cube_facts_read_within most_facts (graphs_of c.args.graphs.now) (instances_in c.args.columns.now) rs)) fed piece
    (at + n) (g.done ++ new.row ∷ []) new.stands stands
    (c.in_err-add_record.ensures.counts g.done g.facts g.counted g.stands_for))
  where
    open c use {args.piece.now as piece, records.at, in_ok-cut.cut.taken as n, next.new.self as new}

pub records-preserved : goal.records-preserved
records-preserved c =
    let s = c.records.self.splitter.stands in
    let one = one-cut piece at n c.in_ok-cut.cut.found new.row s new.stands c.in_ok-cut.ensures.stands
    (not-false _ c.if-not-cut.false) in
    let inv = c.records.invariant in
    record {
      at = omega (arith, c.in_ok-cut.ensures.taken, ap length (rest_is at piece), length-drop at piece, inv.at);
      instances = c.add_record.ensures.instances ∙ inv.instances;
      target = c.add_record.ensures.target ∙ inv.target;
      taken = λ target fed h.
          let g = inv.taken target fed h in
          taken-one g (fed ++ take (at + n) piece) new.row new.stands c.add_record.new.tally
          (stands-on fed piece at n g.done (new.row ∷ []) s new.stands g.stands_at one) c.add_record.ensures.instances
          c.add_record.ensures.target (c.in_ok-add_record.ensures.counts g.done g.facts g.counted g.stands_for);
    }
  where
    open c use {args.piece.now as piece, records.at, in_ok-cut.cut.taken as n, next.new.self as new}
