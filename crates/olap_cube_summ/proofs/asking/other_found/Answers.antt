use Rattle.std.proofs.lemmas.{Option.IfSome_then, Result.IfOk-weaker}
use Rattle.olap_ast.{proofs.SourceLemmas.no_more_constants, specs.Trees.formula_of}
use Rattle.olap_cube_summ.{proofs.SearchLemmas.{about_same, all_known, is_other}, specs.Ways.IsOutside}
use Rattle.olap_schema.specs.Schemas.{schema_of}
use Rattle.olap_cube_summ.proofs.asking.other_found.Goals as goal

pub find-requires-clause-few : goal.find-requires-clause-few
find-requires-clause-few c =
    no_more_constants (schema_of c.args.schema.now) (formula_of c.in_ok-formula.formula)
    c.constraints-valid.ensures.valid c.in_ok-formula.ensures.free c.in_ok-formula.ensures.numberless

pub returns-clause-none : goal.returns-clause-none
returns-clause-none c =
    let q = c.args.question.now in
    let f = formula_of c.in_ok-formula.formula in
    IfOk-weaker c.find.result _ _ (λ o none e. all_known (schema_of c.args.schema.now) q c.args.patterns.now f
    (about_same q.target.0 (λ column. IsOutside q.target.0 column c.args.patterns.now) f c.items.result.now
    q.sources c.items.ensures c.in_ok-formula.ensures) c.args.root.0 (none e).0 (none e).1 (none e).2)
    c.find.ensures.none

pub returns-clause-some : goal.returns-clause-some
returns-clause-some c =
    let q = c.args.question.now in
    let f = formula_of c.in_ok-formula.formula in
    IfOk-weaker c.find.result _ _ (λ o h. IfSome_then o h (λ found. is_other (schema_of c.args.schema.now) q
    c.args.patterns.now f (about_same q.target.0
    (λ column. IsOutside q.target.0 column c.args.patterns.now) f c.items.result.now
    q.sources c.items.ensures c.in_ok-formula.ensures) c.args.root.0 found c.requires.root))
    c.find.ensures.some
