use Rattle.std.proofs.Common.{◌≡◌, true, false, sym, ◌∙◌}
use Rattle.olap_proof.proofs.MarkLemmas.{err_unspelled, ok_unspelled}
use Rattle.olap_proof.proofs.lines.number_in.Goals as goal

pub returns-else-is_spelled-clause-none : goal.returns-else-is_spelled-clause-none
returns-else-is_spelled-clause-none c = λ u. ok_unspelled c.args.text.now c.in-Ok.n c.parse.result c.in-Ok.is
    c.parse.ensures.value.0 (λ e.
    let t = c.is_spelled.ensures.1 (e ∙ sym c.as_bytes.ensures.value) in
    let z : true ≡ false = sym t ∙ c.if-is_spelled.false in cc)

pub returns-in-Err-clause-none : goal.returns-in-Err-clause-none
returns-in-Err-clause-none c = λ u. err_unspelled c.args.text.now c.in-Err.field-0 c.in-Err.ensures.value.0
