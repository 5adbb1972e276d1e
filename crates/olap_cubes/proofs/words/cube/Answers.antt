use Rattle.std.{proofs.Common.{List, ap, sym, ◌∙◌}, specs.declared.alloc.Global.Global}
use Rattle.std.specs.declared.string.String.{String}
use Rattle.olap_order.specs.Words.{texts}
use Rattle.olap_cubes.{proofs.WordLemmas.cut_schemas, specs.Cut.{by_target, cube_of}}
use Rattle.olap_cubes.proofs.words.cube.Goals as goal

pub returns-clause-order : goal.returns-clause-order
returns-clause-order c =
    let first = c.in_ok-schemas.ensures.cases in
    let order = cube_of (texts c.in_ok-schemas.schemas.now) in
    c.after_schemas.ensures.order
    ∙ ap (λ (ws : List (String Global)). by_target order (texts ws)) first.2
    ∙ sym (cut_schemas c.args.words.now c.in_ok-schemas.schemas.now c.args.dimensions first.1)
