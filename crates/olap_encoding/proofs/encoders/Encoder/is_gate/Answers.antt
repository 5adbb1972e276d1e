-- The variable's meaning says it.
use Rattle.std.proofs.Common.{◌<◌, length, arith, rules}
use Rattle.olap_encoding.{proofs.NodeLemmas.gate_says, specs.EncoderInside.encoding_of}
use Rattle.olap_encoding.proofs.encoders.Encoder.is_gate.Goals as goal

pub returns-then-eq : goal.returns-then-eq
returns-then-eq c =
    let n : c.args.x < length c.args.self.now.meanings.items =
    let v = c.variables.ensures in let k = c.if-x-variables.false in omega arith in
    λ h. (
      n,
      gate_says (encoding_of c.args.self.now) c.args.x c.in-Both.c c.in-Both.d c.args.a c.args.b
          c.index.result.now n c.index.ensures c.in-Both.is (search (rules, c.if-eq.ensures))
          (search (rules, h, c.eq-then-eq.ensures)),
    )
