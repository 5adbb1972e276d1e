-- One edge after the other, and one clause.
use Rattle.std.proofs.Common.{get_or, sym, subst, refl, ◌∙◌, ap}
use Rattle.olap_base.specs.Graph.{Graph}
use Rattle.olap_graph.specs.Lookups.{edges_from, edge_at as graph_edge}
use Rattle.olap_names.specs.declared.questions.Question.{Question}
use Rattle.olap_encoding.proofs.{GivenLemmas.{given_steps, given_turned}, Growing.{next_on, next_same, says_still}}
use Rattle.olap_encoding.proofs.OutLemmas.{nowhere, out_edge, category_still, edge_still, none_tried, one_tried, all_tried}
use Rattle.olap_encoding.specs.{EncoderInside.encoding_of, Encoding.{IsGiven, Says, ReachingIs}}
use Rattle.olap_encoding.proofs.reaching.steps_clause.Goals as goal

pub edges-init : goal.edges-init
edges-init c =
    none_tried c.args.e.now.question.graph.now (encoding_of c.args.e.now) c.args.c.0 c.args.d.0
    c.parents-id-items.result.now c.args.literals.now.items (next_same c.requires.sound) refl

pub try_step-requires-clause-edge : goal.try_step-requires-clause-edge
try_step-requires-clause-edge c =
    let g = c.args.e.now.question.graph.now in
    let q = c.parents-id-items.ensures.list
    ∙ ap (λ (p : Question). edges_from p.graph.now c.args.c.0) c.question-q.ensures in
    let o = out_edge g c.args.c.0 c.parents-id-items.result.now q c.edges.id-index c.edges-test.true in
    edge_still c.edges.invariant.next.later _ o.0

pub try_step-requires-clause-category : goal.try_step-requires-clause-category
try_step-requires-clause-category c = category_still c.edges.invariant.next.later c.args.d.0 c.requires.pair.1

pub try_step-requires-clause-says : goal.try_step-requires-clause-says
try_step-requires-clause-says c =
    let g = c.args.e.now.question.graph.now in
    let f = encoding_of c.edges.e in
    let q = c.parents-id-items.ensures.list
    ∙ ap (λ (p : Question). edges_from p.graph.now c.args.c.0) c.question-q.ensures in
    let o = out_edge g c.args.c.0 c.parents-id-items.result.now q c.edges.id-index c.edges-test.true in
    let s = says_still c.edges.invariant.next.later c.requires.says in
    subst (λ i. Says f c.args.l (ReachingIs i c.args.d.0))
    (sym o.1 ∙ ap (λ (i : Graph).
    (graph_edge i (get_or c.parents-id-items.result.now c.edges.id-index nowhere).0).child)
    (sym c.edges.invariant.graph)) s

pub edges-preserved : goal.edges-preserved
edges-preserved c =
    let q = c.parents-id-items.ensures.list
    ∙ ap (λ (p : Question). edges_from p.graph.now c.args.c.0) c.question-q.ensures in
    let t = c.in_ok-try_step.ensures in
    one_tried c.edges.invariant (encoding_of c.try_step.new.e) c.try_step.new.steps.items q c.edges-test.true t.next
    t.kept t.has

pub clause-requires-clause-given : goal.clause-requires-clause-given
clause-requires-clause-given c =
    let e = encoding_of c.edges.e in
    let n = c.edges.invariant.next in
    let ls = c.edges.literals.items in
    let q = c.parents-id-items.ensures.list
    ∙ ap (λ (p : Question). edges_from p.graph.now c.args.c.0) c.question-q.ensures in
    subst (λ ls. IsGiven e ls) (sym (c.deref.ensures.value ∙ c.in_ok-push.ensures.items))
    (given_turned e c.negated-not_l.result ls
    (given_steps e n.sound c.negated-not_l.result c.args.l c.args.c.0 c.args.d.0 ls c.requires.pair.2
    c.negated-not_l.ensures (says_still n.later c.requires.says) (all_tried c.edges.invariant q c.edges-test.false)))

pub returns : goal.returns
returns c = record { next = next_on c.edges.invariant.next c.clause.ensures.next }
