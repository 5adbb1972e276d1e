use Rattle.std.proofs.Common.{◌≤◌, ◌∙◌, ap, sym, arith}
use Rattle.olap_ast.{proofs.SourceLemmas.{question_kinds, until}, specs.Summarizable.IsSummarizable}
use Rattle.olap_base.specs.Graph.{IsBottom, category_count}
use Rattle.olap_frozen.specs.declared.founding.Found.{Found}
use Rattle.olap_schema.specs.Schemas.{schema_of}
use Rattle.olap_summ.proofs.CounterexampleLemmas.{first_shown, summarizable_is, summarizable_isnt}
use Rattle.olap_summ.{proofs.NowhereLemmas.{none_is, some_told}, specs.Answers.IsNowhere, specs.Asking.IsFirstFound}
use Rattle.olap_summ.specs.Decisions.{asked_by, sources_of, target_of}
use Rattle.olap_summ.proofs.summarizing.first_found.Goals as goal

pub categories-preserved : goal.categories-preserved
categories-preserved c =
    let s = schema_of c.args.schema.now in
    until (λ d. IsBottom s.graph d → IsNowhere s (asked_by c.args.questions.now) d) c.categories.b
    c.categories.invariant (c.in_ok-found.ensures.none (sym c.is_some.ensures ∙ c.if-is_some.false))

pub returns-then-is_some-clause-none : goal.returns-then-is_some-clause-none
returns-then-is_some-clause-none c =
    let s = schema_of c.args.schema.now in
    some_told c.in_ok-found.found (IsFirstFound w s (asked_by q)) (IsSummarizable s (target_of q) (sources_of q))
    (sym c.is_some.ensures ∙ c.if-is_some.true)
    (first_shown w s (asked_by q) c.categories.b c.in_ok-found.found c.in_ok-found.ensures.bottom
    c.in_ok-found.ensures.some c.categories.invariant)
    (rw c.requires.asked
    (summarizable_isnt s (target_of q) (sources_of q) c.constraints-valid.ensures.valid.hierarchy w))
  where
    open c use {args.questions.now as q, args.wanted as w}

pub returns-then-is_some-clause-some : goal.returns-then-is_some-clause-some
returns-then-is_some-clause-some c =
    first_shown c.args.wanted (schema_of c.args.schema.now) (asked_by c.args.questions.now) c.categories.b
    c.in_ok-found.found c.in_ok-found.ensures.bottom c.in_ok-found.ensures.some c.categories.invariant

pub returns-clause-none : goal.returns-clause-none
returns-clause-none c =
    let s = schema_of c.args.schema.now in
    let q = c.args.questions.now in
    let count = c.categories-b-end.ensures.count ∙ ap category_count c.graph.ensures in
    let past : category_count s.graph ≤ c.categories.b = omega arith in
    none_is Found (IsSummarizable s (target_of q) (sources_of q))
    (summarizable_is s (target_of q) (sources_of q) c.constraints-valid.ensures.valid.hierarchy
    c.candidates_exist.ensures (question_kinds s (target_of q) (sources_of q) c.constraints-valid.ensures.valid)
    (λ b bottom. rw c.requires.asked at
    (c.categories.invariant b (let l = bottom.0.1 in omega (arith, l, past)) bottom)))
