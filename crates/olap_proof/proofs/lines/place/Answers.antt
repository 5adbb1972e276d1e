use Rattle.std.proofs.{Common.{◌≡◌, suc, sym, ◌∙◌, arith}, lemmas.Fmt.decimal_injective}
use Rattle.olap_proof.proofs.lines.place.Goals.{else-n-gt0-via-then-n-gt0+else-n-count, else-n-gt0-via-else-n-gt0}
use Rattle.olap_proof.proofs.lines.place.Goals as goal

pub returns-else-n-gt0-clause-none : goal.returns-else-n-gt0-clause-none
returns-else-n-gt0-clause-none c = λ u m l e.
    let n = c.in-Some.n in
    let f = c.in-Some.ensures.some in
    let same : n ≡ suc m = decimal_injective n (suc m) f.0 (omega (arith, c.ranges.count.fits)) (f.1 ∙ sym e) in
    elim c.else-n-gt0.branch [
      | else-n-gt0-via-then-n-gt0+else-n-count w ↦ omega (arith, w.if-n-count.false, same, l)
      | else-n-gt0-via-else-n-gt0 w ↦ omega (arith, w.if-n-gt0.false, same)
    ]
