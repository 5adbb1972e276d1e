use Rattle.std.proofs.Common.{◌≡◌, ◌∙◌, sym, true, false}
use Rattle.olap_cube_summ.proofs.MaskLemmas.{all_met_with, all_met_without, none_met}
use Rattle.olap_cube_summ.proofs.masks.meets.Goals.{then-has, else-has}
use Rattle.olap_cube_summ.proofs.masks.meets.Goals as goal

pub masks-init : goal.masks-init
masks-init c = record { met = none_met c.args.masks.now c.args.patterns.now c.empty-met.result c.empty-met.ensures }

pub masks-preserved : goal.masks-preserved
masks-preserved c = elim c.if-has.branch [
  | then-has w ↦ record {
    met = rw w.met-is (all_met_with c.args.masks.now c.args.patterns.now c.masks.m c.masks.met w.meet_each-met.result
        (c.masks-test.true, sym c.has.ensures ∙ w.if-has.true) w.meet_each-met.ensures c.masks.invariant.met);
  }
  | else-has w ↦ record {
    met = rw w.met-is (all_met_without c.args.masks.now c.args.patterns.now c.masks.m c.masks.met
        (λ h. let q : false ≡ true = sym w.if-has.false ∙ c.has.ensures ∙ h.1 in cc) c.masks.invariant.met);
  }
]
