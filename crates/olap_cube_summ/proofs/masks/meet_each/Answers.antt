use Rattle.std.proofs.Common.{◌≡◌, ◌∙◌, sym, true, false}
use Rattle.olap_cube_summ.proofs.{MaskLemmas.{met_with, met_without}, masks.meet_each.Goals.{then-has, else-has}}
use Rattle.olap_cube_summ.proofs.masks.meet_each.Goals as goal

pub patterns-preserved : goal.patterns-preserved
patterns-preserved c = elim c.if-has.branch [
  | then-has w ↦ record {
    met = rw w.met-is (met_with c.args.masks c.args.mask c.args.patterns.now c.patterns.p c.patterns.met
        w.with-met.result c.requires (c.patterns-test.true, sym c.has.ensures ∙ w.if-has.true) w.with-met.ensures
        c.patterns.invariant.met);
  }
  | else-has w ↦ record {
    met = rw w.met-is (met_without c.args.masks c.args.mask c.args.patterns.now c.patterns.p c.patterns.met
        (λ h. let q : false ≡ true = sym w.if-has.false ∙ c.has.ensures ∙ h.1 in cc) c.patterns.invariant.met);
  }
]
