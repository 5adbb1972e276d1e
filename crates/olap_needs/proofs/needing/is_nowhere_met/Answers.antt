use Rattle.std.{proofs.Common.{◌∙◌, ap, sym, subst}, specs.Prelude.{◌↔◌, IfOk, IsTrue}}
use Rattle.olap_ast.proofs.SourceLemmas.{no_more_constants, question_at, question_free, question_numberless}
use Rattle.olap_ast.specs.{Atoms.{comparisons, equalities}, Questions.IsImplied, Trees.{formula_of, numbers_of}}
use Rattle.olap_ast.specs.Valid.{IsFormulaAt}
use Rattle.olap_schema.specs.Schemas.{schema_of}
use Rattle.olap_needs.proofs.needing.is_nowhere_met.Goals as goal

pub is_implied-requires-clause-formula : goal.is_implied-requires-clause-formula
is_implied-requires-clause-formula c =
    let s = schema_of c.args.schema.now in
    subst (λ f. IsFormulaAt s.graph c.args.b.0 f) (sym c.in_ok-formula.ensures)
    (question_at s.graph c.args.b.0 c.args.target.0 (numbers_of c.args.sources.now) c.requires.target
    c.requires.sources)

pub is_implied-requires-clause-few : goal.is_implied-requires-clause-few
is_implied-requires-clause-few c =
    let s = schema_of c.args.schema.now in
    let sources = numbers_of c.args.sources.now in
    no_more_constants s (formula_of c.in_ok-formula.formula) c.constraints-valid.ensures.valid
    (ap equalities c.in_ok-formula.ensures ∙ question_free c.args.target.0 sources)
    (ap comparisons c.in_ok-formula.ensures ∙ question_numberless c.args.target.0 sources)

pub returns : goal.returns
returns c =
    let s = schema_of c.args.schema.now in
    subst (λ f. IfOk c.is_implied.result (λ is. IsTrue is ↔ IsImplied s c.args.b.0 f)) c.in_ok-formula.ensures
    c.is_implied.ensures
