use Rattle.std.{proofs.Common.{◌≡◌, arith}, proofs.lemmas.Grind.common_steps, specs.Prelude.slice_index}
use Rattle.olap_ast.{proofs.SourceLemmas.{number_at, until}, specs.Trees.numbers_of}
use Rattle.olap_ast.proofs.questioning.stands_before.Goals as goal

pub earlier-preserved : goal.earlier-preserved
earlier-preserved c =
    let sources = c.args.sources.now in
    let end = c.earlier-test.true in
    let here = number_at sources c.args.k c.requires in
    until (λ i. slice_index (numbers_of sources) i ≡ slice_index (numbers_of sources) c.args.k → ⊥) c.earlier.j
    c.earlier.invariant (λ q. grind (arith, common_steps, number_at sources c.earlier.j (omega arith), here, q))
