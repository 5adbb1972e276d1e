-- The variable's meaning says it.
use Rattle.std.proofs.{Common.{◌<◌, length, arith}, lemmas.Bool.eqb-true}
use Rattle.olap_encoding.{proofs.GivenLemmas.rung_says, specs.EncoderInside.encoding_of}
use Rattle.olap_encoding.proofs.encoders.Encoder.is_rung.Goals as goal

pub returns-then-d-c : goal.returns-then-d-c
returns-then-d-c c =
    let n : c.args.x < length c.args.self.now.meanings.items =
    let v = c.variables.ensures in let k = c.if-x-variables.false in omega arith in
    λ h. (
      n,
      rung_says (encoding_of c.args.self.now) c.args.x c.in-UpTo.d c.in-UpTo.j c.args.c.0 c.args.k
          c.index.result.now n c.index.ensures c.in-UpTo.is c.if-d-c.true (eqb-true c.in-UpTo.j c.args.k h),
    )
