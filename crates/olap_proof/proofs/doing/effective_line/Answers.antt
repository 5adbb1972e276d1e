use Rattle.std.proofs.{Common.{◌≡◌, ◌∙◌, ◌<◌, ◌^◌, ℕ, List, true, false, subst, sym}, lemmas.List.length-map}
use Rattle.olap_ast.specs.Trees.{constraint_of, formula_of}
use Rattle.olap_names.specs.Names.{candidates_of}
use Rattle.olap_proof.proofs.DoingLemmas.{does_once, does_step, step_does}
use Rattle.olap_proof.specs.{DoneHere.{StepsHere, open_after, schema_at}, Reading.meaning}
use Rattle.olap_proof.proofs.doing.effective_line.Goals as goal

pub returns-in_err-line-clause-none : goal.returns-in_err-line-clause-none
returns-in_err-line-clause-none c = λ n new step.
    let p = c.args.known.now in
    let m = step_does p.form (schema_at p c.args.constraints.now) (formula_of c.args.question.now)
    (candidates_of p.candidates.now) p.place.now c.args.bytes.now new step in
    c.in_err-line.ensures m.0 m.2 (sym m.1)

pub returns-then-does-clause-step : goal.returns-then-does-clause-step
returns-then-does-clause-step c =
    subst (λ (b : List ℕ). StepsHere p c.args.constraints.now c.args.question.now b (open_after p l))
    c.in_ok-line.ensures.1
    (does_step p.form (schema_at p c.args.constraints.now) (formula_of c.args.question.now)
    (candidates_of p.candidates.now) p.place.now (meaning l) c.in_ok-line.ensures.0 (c.does.ensures.0 c.if-does.true))
  where
    open c use {args.known.now as p, in_ok-line.line as l}

pub returns-else-does-clause-none : goal.returns-else-does-clause-none
returns-else-does-clause-none c = λ n.
    let p = c.args.known.now in
    does_once p.form (schema_at p c.args.constraints.now) (formula_of c.args.question.now)
    (candidates_of p.candidates.now) p.place.now c.args.bytes.now (meaning c.in_ok-line.line)
    c.categories-graph.ensures.hierarchy
    (subst (λ n. n < 2 ^ 64) (sym (length-map c.args.constraints.now constraint_of)) c.count_of-few.ensures)
    c.in_ok-line.ensures.0 c.in_ok-line.ensures.1
    (λ d. let z : true ≡ false = sym (c.does.ensures.1 d) ∙ c.if-does.false in cc)
