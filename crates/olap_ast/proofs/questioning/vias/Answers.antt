use Rattle.std.proofs.{Common.{◌-◌, arith}, lemmas.Grind.common_steps}
use Rattle.olap_ast.proofs.SourceLemmas.{vias_more}
use Rattle.olap_ast.proofs.questioning.vias.Goals as goal

pub sources-preserved : goal.sources-preserved
sources-preserved c =
    let some = c.sources-test.true in
    let inside = c.sources.invariant.inside in
    let more = vias_more c.args.target.0 c.args.sources.now (c.sources.left - 1) c.sources.left c.args.target
    (omega arith) (omega arith) in
    record {
      behind = grind (arith, common_steps, more);
      inside = omega arith;
    }
