-- No number wraps where summaries are joined.
use Rattle.std.proofs.{Common.{◌≡◌, ◌+ℤ◌, to_z, of_z, arith, rules, w64, ◌∙◌}, lemmas.Int.{ints, to_z-of_z}}
use Rattle.std.specs.Int.{int_min, int_max}
use Rattle.olap_base.proofs.GeneralLemmas.{in_64_bits}
use mir.Val.{SFits}
use mir.Syntax.{w128}
use Rattle.olap_view.proofs.summaries.Summary.joined.Goals as goal

pub returns : goal.returns
returns c =
    let u = c.requires.this in
    let v = c.requires.that in
    let lf : SFits w64 c.args.self.least = search rules in
    let gf : SFits w64 c.args.self.greatest = search rules in
    let lg : SFits w64 c.args.other.least = search rules in
    let gg : SFits w64 c.args.other.greatest = search rules in
    let mf : SFits w64 c.min.result = search rules in
    let xf : SFits w64 c.max.result = search rules in
    let sum : to_z w128 (of_z w128 (to_z w128 (of_z w128 c.args.self.sum) +ℤ to_z w128 (of_z w128 c.args.other.sum)))
    ≡ c.args.self.sum +ℤ c.args.other.sum = omega (arith, ints) in
    let a : to_z w64 (of_z w64 c.min.result) ≡ int_min c.args.self.least c.args.other.least =
    to_z-of_z w64 c.min.result mf ∙ c.min.ensures.value ∙ in_64_bits int_min s.least t.least lf lg in
    let b : to_z w64 (of_z w64 c.max.result) ≡ int_max c.args.self.greatest c.args.other.greatest =
    to_z-of_z w64 c.max.result xf ∙ c.max.ensures.value ∙ in_64_bits int_max s.greatest t.greatest gf gg in
    rw (sum, a, b)
  where
    open c use {args.self as s, args.other as t}
