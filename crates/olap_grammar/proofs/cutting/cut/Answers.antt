use Rattle.std.{proofs.Common.{◌∙◌, ap, refl}, specs.List.fold}
use Rattle.olap_grammar.{proofs.CutterLemmas.cut_fails, proofs.RoomLemmas.still_room, specs.Cutter.kept_of}
use Rattle.olap_grammar.specs.Keeping.{kept_step}
use Rattle.olap_grammar.proofs.cutting.cut.Goals as goal

pub bytes-preserved : goal.bytes-preserved
bytes-preserved c = (
  c.bytes.invariant.0
      ∙ (rw c.in-Some.ensures.cases.0 refl
      ∙ ap (λ g. fold (kept_step c.args.version) g c.in-Some.others.now) c.in-Ok.ensures),
  still_room _ _ _ _ _ _ _ _ _ _ _ c.in-Ok.ensures c.in-Some.ensures.cases.0 c.bytes.invariant.1,
)

pub returns-in-Err : goal.returns-in-Err
returns-in-Err c =
    cut_fails c.args.version c.in-Err.e (kept_of c.args.tokens.now) _ c.args.line.now c.in-Some.others.now
    (c.bytes.invariant.0 ∙ rw c.in-Some.ensures.cases.0 refl) c.in-Err.ensures
