-- The encoding has grown.
use Rattle.olap_encoding.specs.{EncoderInside.encoding_of, Encoding.IsNext}
use Rattle.olap_encoding.proofs.naming.pairs.Given as goal

abbrev pub invariant-names : goal.invariant-names
invariant-names l = IsNext (encoding_of l.fn.e) (encoding_of l.e)

abbrev pub invariant-earlier : goal.invariant-earlier
invariant-earlier l = IsNext (encoding_of l.fn.e) (encoding_of l.e)
