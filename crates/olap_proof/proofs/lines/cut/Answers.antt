use Rattle.olap_proof.proofs.MarkLemmas.{none_before, none_within}
use Rattle.std.proofs.Common.{arith}
use Rattle.olap_proof.proofs.lines.cut.Goals as goal

pub returns-then-bytes-i-clause-first : goal.returns-then-bytes-i-clause-first
returns-then-bytes-i-clause-first c =
    none_before c.args.bytes.now c.args.mark c.bytes.i (omega arith) c.bytes.invariant

pub returns-clause-first : goal.returns-clause-first
returns-clause-first c = none_within c.args.bytes.now c.args.mark c.bytes.i c.bytes-test.false c.bytes.invariant
