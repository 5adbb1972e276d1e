-- The first names, and no others.
use Rattle.std.proofs.{Common.{length, subst, w64}, lemmas.Int.to_z-of_z}
use Rattle.olap_ast.specs.Trees.{op_of}
use Rattle.olap_encoding.{proofs.ComparingLemmas.number_by_rung, specs.EncoderInside.encoding_of}
use Rattle.olap_encoding.specs.Formulas.{IsLeading}
use Rattle.olap_encoding.proofs.formulas.by_rung.Goals as goal

pub returns : goal.returns
returns c =
    number_by_rung (encoding_of c.args.e.now) c.requires.sound c.args.d.0 (op_of c.args.op) c.args.n
    c.requires.category c.in_ok-l.l c.in_ok-m.m
    ((rw (to_z-of_z w64 c.args.n c.ranges.n) at c.first_passes.ensures).0 c.if-not-first_passes.false)
    (subst (λ names. IsLeading names (op_of c.args.op) c.args.n (length names) c.in_ok-m.m) c.others.ensures.list
    (rw (to_z-of_z w64 c.args.n c.ranges.n) at c.in_ok-m.ensures)) c.in_ok-l.ensures
