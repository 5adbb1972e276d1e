use Rattle.std.proofs.Common.{◌∙◌, ap, sym, arith}
use Rattle.olap_bits.specs.Sets.{members}
use Rattle.olap_cube_summ.proofs.{FamilyLemmas.union_next, MaskLemmas.{in_empty, in_union}}
use Rattle.olap_cube_summ.specs.declared.families.Family.{Family}
use Rattle.std.specs.FinSet as set
use Rattle.olap_cube_summ.proofs.families.union.Goals as goal

pub families-init : goal.families-init
families-init c = record {
  has = λ p. (
    λ h. absurd (in_empty c.empty-all.result c.empty-all.ensures p h),
    λ t. absurd (let l = t.2 in omega arith),
  );
}

pub families-preserved : goal.families-preserved
families-preserved c = record {
  has = union_next c.args.families.now c.families.k c.families.all c.union-all.result c.index-families-k.result
      c.families-test.true c.index-families-k.is
      (in_union c.families.all c.index-families-k.result.patterns c.union-all.result
      (c.union-all.ensures ∙ ap (λ (w : Family). set.union (members c.families.all) (members w.patterns))
      (sym c.index-families-k.is)))
      c.families.invariant.has;
}

pub returns : goal.returns
returns c = λ p. (
  λ h. let t = (c.families.invariant.has p).0 h in
      (t.0, (t.1, (let a = t.2 in let b = c.families.auto.k-end in omega arith), t.3), t.4),
  λ t. (c.families.invariant.has p).1
      (t.0, t.1.0, (let a = t.1.1 in let b = c.families-test.false in omega arith), t.1.2, t.2),
)
