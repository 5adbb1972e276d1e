use Rattle.std.proofs.Common.{◌≡◌, true, false, arith}
use Rattle.olap_cube_summ.proofs.masks.has_bad.Goals as goal

pub returns : goal.returns
returns c = (
  λ e. absurd (let z : false ≡ true = e in cc),
  λ t.
      let within = t.1.0 in
      let past = c.masks-test.false in absurd (c.masks.invariant.none t.0 (omega arith) t.1 t.2),
)
