-- The rung below.
use Rattle.olap_encoding.{proofs.LadderLemmas.IsRung, specs.EncoderInside.encoding_of}
use Rattle.olap_encoding.proofs.naming.ladder.Given as goal

abbrev pub invariant-rungs : goal.invariant-rungs
invariant-rungs l = IsRung (encoding_of l.fn.e) (encoding_of l.e) l.fn.c.0 l.below l.j
