use Rattle.std.{proofs.Common.{◌≡◌, refl}, specs.Prelude.{None, Option, Some, IsNone}}
use Rattle.olap_ast.{proofs.SourceLemmas.no_more_constants, specs.Trees.formula_of}
use Rattle.olap_frozen.specs.declared.founding.Found.{Found}
use Rattle.olap_cube_summ.{proofs.SearchLemmas.{about_same, is_least, some_found}, specs.Ways.IsInside}
use Rattle.olap_schema.specs.Schemas.{schema_of}
use Rattle.olap_cube_summ.proofs.asking.least_found.Goals as goal

-- what is no `Some` is none
none_else : (o : Option Found) → ((found : Found) → o ≡ Some found → ⊥) → IsNone o
none_else None n = refl
none_else (Some found) n = absurd (n found refl)

pub find-requires-clause-few : goal.find-requires-clause-few
find-requires-clause-few c =
    no_more_constants (schema_of c.args.schema.now) (formula_of c.in_ok-formula.formula)
    c.constraints-valid.ensures.valid c.in_ok-formula.ensures.free c.in_ok-formula.ensures.numberless

pub unreachable-requires : goal.unreachable-requires
unreachable-requires c =
    let q = c.args.question.now in
    let f = formula_of c.in_ok-formula.formula in
    let none = c.in_ok-least.ensures.none (none_else c.in_ok-least.least c.in_default.not-Some) in
    some_found (schema_of c.args.schema.now) q c.args.patterns.now f (about_same q.target.0
    (λ column. IsInside q.target.0 column c.args.patterns.now) f c.items.result.now
    q.sources c.items.ensures c.in_ok-formula.ensures) c.args.root.0 none.0 none.1 c.requires.some none.2

pub returns : goal.returns
returns c =
    let q = c.args.question.now in
    let f = formula_of c.in_ok-formula.formula in
    is_least (schema_of c.args.schema.now) q c.args.patterns.now f (about_same q.target.0
    (λ column. IsInside q.target.0 column c.args.patterns.now) f c.items.result.now
    q.sources c.items.ensures c.in_ok-formula.ensures) c.args.root.0 c.in-Some.found c.requires.root
    (rw c.in-Some.is at c.in_ok-least.ensures.some)
