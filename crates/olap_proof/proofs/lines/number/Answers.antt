use Rattle.olap_proof.proofs.MarkLemmas.{text_unspelled}
use Rattle.olap_proof.proofs.lines.number.Goals as goal

pub returns-in-Err-clause-none : goal.returns-in-Err-clause-none
returns-in-Err-clause-none c = λ u. text_unspelled c.args.bytes.now c.in-Err.ensures.cases.0
