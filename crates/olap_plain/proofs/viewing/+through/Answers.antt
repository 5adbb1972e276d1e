use Rattle.std.proofs.Common.{◌≡◌, ◌-◌, suc, arith, inl, inr, eq-eqb, sym, ◌∙◌}
use Rattle.olap_plain.proofs.PlainLemmas.{to_zero, from_zero, to_suc, from_suc}
use Rattle.olap_base.proofs.GeneralLemmas.{refuted}
use Rattle.olap_plain.proofs.viewing.+through.Goals as goal

pub returns-then-x-y : goal.returns-then-x-y
returns-then-x-y t c = (
  λ e. to_zero _ _ _ _ c.if-k-eq0.true (inl c.if-x-y.true),
  λ e. eq-eqb c.args.x c.args.y c.if-x-y.true,
)

pub returns-else-x-y : goal.returns-else-x-y
returns-else-x-y t c = (
  λ e. to_zero _ _ _ _ c.if-k-eq0.true (inr (c.is_below.ensures.0 e)),
  λ s. elim (from_zero _ _ _ _ c.if-k-eq0.true s)
      [ inl e ↦ absurd (c.if-x-y.false e) | inr b ↦ c.is_below.ensures.1 b ],
)

pub returns-then-through : goal.returns-then-through
returns-then-through t c =
    let e : c.args.k ≡ suc (c.args.k - 1) = omega arith in (
      λ r. to_suc _ _ _ _ (c.args.k - 1) e (inl (c.through.ensures.0 r)),
      λ s. c.if-through.true,
    )

pub returns-then-through-2 : goal.returns-then-through-2
returns-then-through-2 t c =
    let e : c.args.k ≡ suc (c.args.k - 1) = omega arith in (
      λ r. to_suc _ _ _ _ (c.args.k - 1) e
          (inr (c.through-else-through.ensures.0 c.if-through-2.true, c.through-then-through-2.ensures.0 r)),
      λ s. elim (from_suc _ _ _ _ (c.args.k - 1) e s) [
        | inl a ↦ absurd (refuted c.through.result c.if-through.false c.through.ensures a)
        | inr b ↦ c.through-then-through-2.ensures.1 b.1
      ],
    )

pub returns-else-through-2 : goal.returns-else-through-2
returns-else-through-2 t c =
    let e : c.args.k ≡ suc (c.args.k - 1) = omega arith in (
      λ r. absurd (let z = sym r ∙ c.if-through-2.false in cc),
      λ s. elim (from_suc _ _ _ _ (c.args.k - 1) e s) [
        | inl a ↦ absurd (refuted c.through.result c.if-through.false c.through.ensures a)
        | inr b ↦ absurd (refuted c.through-else-through.result c.if-through-2.false c.through-else-through.ensures b.0)
      ],
    )
