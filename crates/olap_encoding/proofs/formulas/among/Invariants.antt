-- The encoding has grown, and the literal tells of the names so far.
use Rattle.olap_ast.specs.Trees.{op_of}
use Rattle.olap_encoding.specs.{EncoderInside.encoding_of, Encoding.{IsNext, Says}, Formulas.AmongIs}
use Rattle.olap_encoding.proofs.formulas.among.Given as goal

abbrev pub invariant-names : goal.invariant-names
invariant-names l = record {
  next : IsNext (encoding_of l.fn.e) (encoding_of l.e);
  says : Says (encoding_of l.e) l.l (AmongIs l.d.0 l.j (op_of l.op) l.n l.want);
}
