use Rattle.std.proofs.Common.{◌≡◌, ◌∙◌, sym, true, false, arith}
use Rattle.olap_cube_summ.proofs.MaskLemmas.{in_empty, possible_with, possible_without}
use Rattle.olap_cube_summ.proofs.masks.possible.Goals.{then-has+then-can_be_bad, else-has, else-has-via-then-has+else-can_be_bad, else-has-via-else-has}
use Rattle.olap_cube_summ.proofs.masks.possible.Goals as goal

pub patterns-init : goal.patterns-init
patterns-init c = record {
  found = λ q. (
    λ h. absurd (in_empty c.empty-possible.result c.empty-possible.ensures q h),
    λ t. absurd (let l = t.0 in omega arith),
  );
}

pub patterns-preserved : goal.patterns-preserved
patterns-preserved c = elim c.if-has.branch [
  | then-has+then-can_be_bad w ↦ record {
    found = rw w.possible-is (possible_with c.args.sources c.args.mask c.args.patterns.now c.args.rest.now c.patterns.p
        c.patterns.possible w.with-possible.result (c.patterns-test.true, sym c.has.ensures ∙ w.if-has.true)
        (w.can_be_bad.ensures.0 w.if-can_be_bad.true) w.with-possible.ensures c.patterns.invariant.found);
  }
  | else-has w ↦ record {
    found = rw w.possible-is (possible_without c.args.sources c.args.mask c.args.patterns.now c.args.rest.now
        c.patterns.p c.patterns.possible (λ i b. elim w.else-has.branch [
          | else-has-via-then-has+else-can_be_bad v ↦
              let q : false ≡ true = sym v.if-can_be_bad.false ∙ v.can_be_bad.ensures.1 b in cc
          | else-has-via-else-has v ↦ let q : false ≡ true = sym v.if-has.false ∙ c.has.ensures ∙ i.1 in cc
        ]) c.patterns.invariant.found);
  }
]
