use Rattle.std.proofs.{Common.{◌≡◌, ℤ, ◌+ℤ◌, to_z, of_z, arith, rules, w64, ◌∙◌}, lemmas.Int.{ints, to_z-of_z}}
use Rattle.std.specs.Int.{int_min, int_max}
use Rattle.olap_base.proofs.GeneralLemmas.{in_64_bits}
use mir.Val.{SFits}
use mir.Syntax.{w128}
use Rattle.olap_plain.proofs.viewing.with_value.Goals as goal

pub returns-in-Some-clause-bounded : goal.returns-in-Some-clause-bounded
returns-in-Some-clause-bounded c = let h = rw c.in-Some.is at c.requires in let r = c.ranges.value in
    let f = c.from-in-Some.ensures in omega (arith, ints)

-- one of two numbers of 64 bits, as they are
chosen : (g : ℤ → ℤ → ℤ) (x y z : ℤ) → SFits w64 x → SFits w64 y → SFits w64 z
    → z ≡ g (to_z w64 (of_z w64 x)) (to_z w64 (of_z w64 y)) → to_z w64 (of_z w64 z) ≡ g x y
chosen g x y z p q r e = to_z-of_z w64 z r ∙ e ∙ in_64_bits g x y p q

pub returns-in-Some-clause-row : goal.returns-in-Some-clause-row
returns-in-Some-clause-row c =
    let h = rw c.in-Some.is at c.requires in
    let f = c.from-in-Some.ensures in
    let s : to_z w128 (of_z w128
    (to_z w128 (of_z w128 r.sum) +ℤ to_z w128 (of_z w128 c.from-in-Some.result))) ≡ r.sum +ℤ v = omega (arith, ints) in
    let a = chosen int_min r.least v c.min.result (search rules) c.ranges.value (search rules) c.min.ensures.value in
    let b = chosen int_max r.greatest v c.max.result (search rules) c.ranges.value (search rules) c.max.ensures.value in
    rw (c.in-Some.is, s, a, b)
  where
    open c use {in-Some.r, args.value as v}
