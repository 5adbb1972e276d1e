-- The variable's meaning says it.
use Rattle.std.proofs.{Common.{◌<◌, length, arith}, lemmas.Bool.eqb-true}
use Rattle.olap_encoding.{proofs.GivenLemmas.reaching_says, specs.EncoderInside.encoding_of}
use Rattle.olap_encoding.proofs.encoders.Encoder.is_reaching.Goals as goal

pub returns-then-a-c : goal.returns-then-a-c
returns-then-a-c c =
    let n : c.args.x < length c.args.self.now.meanings.items =
    let v = c.variables.ensures in let k = c.if-x-variables.false in omega arith in
    λ h. (
      n,
      reaching_says (encoding_of c.args.self.now) c.args.x c.in-Reaching.a c.in-Reaching.b c.args.c.0 c.args.d.0
          c.index.result.now n c.index.ensures c.in-Reaching.is c.if-a-c.true (eqb-true c.in-Reaching.b c.args.d.0 h),
    )
