use Rattle.std.proofs.Common.{map, ◌∙◌, arith}
use Rattle.olap_ast.specs.Trees.{constraint_of, formula_of}
use Rattle.olap_names.specs.Names.{candidates_of, with_graph}
use Rattle.olap_plain.proofs.SearchLemmas.{earlier_found, earlier_last, earlier_next, earlier_start, edges_fall}
use Rattle.olap_plain.proofs.searching.least.Goals as goal

pub edges-init : goal.edges-init
edges-init c = record {
  none = earlier_start (with_graph q.graph.now (map constraint_of q.constraints.now))
      (formula_of q.formula.now) q.root.0
      (candidates_of q.candidates.now) c.clear.new.edges (λ e. c.clear.ensures.cleared e (omega arith));
  walk = c.requires.walk;
}
  where
    open c use {args as a, args.question.now as q}

pub returns-then-first_names-clause-some : goal.returns-then-first_names-clause-some
returns-then-first_names-clause-some c = λ t.
    earlier_found (with_graph q.graph.now (map constraint_of q.constraints.now)) (formula_of q.formula.now) q.root.0
    (candidates_of q.candidates.now) c.edges.edges c.first_names.new.walk.indexes
    (c.edges.auto.edges ∙ c.clear.auto.edges ∙ c.requires.edges) (c.first_names.ensures.some c.if-first_names.true)
    c.edges.invariant.none c.requires.candidates
  where
    open c use {args as a, args.question.now as q}

pub returns-then-not-next_edges-clause-none : goal.returns-then-not-next_edges-clause-none
returns-then-not-next_edges-clause-none c = λ t.
    earlier_last (with_graph q.graph.now (map constraint_of q.constraints.now)) (formula_of q.formula.now) q.root.0
    (candidates_of q.candidates.now) c.edges.edges (c.edges.auto.edges ∙ c.clear.auto.edges ∙ c.requires.edges)
    (c.next_edges.ensures.last c.if-not-next_edges.true) (c.first_names.ensures.none c.if-first_names.false)
    c.edges.invariant.none
  where
    open c use {args as a, args.question.now as q}

pub edges-smaller : goal.edges-smaller
edges-smaller c = edges_fall c.edges.edges c.next_edges.new.edges (c.next_edges.ensures.next c.if-not-next_edges.false)

pub edges-preserved : goal.edges-preserved
edges-preserved c = record {
  none = earlier_next (with_graph q.graph.now (map constraint_of q.constraints.now))
      (formula_of q.formula.now) q.root.0
      (candidates_of q.candidates.now) c.edges.edges c.next_edges.new.edges
      (c.edges.auto.edges ∙ c.clear.auto.edges ∙ c.requires.edges)
      (c.next_edges.ensures.next c.if-not-next_edges.false) (c.first_names.ensures.none c.if-first_names.false)
      c.edges.invariant.none;
  walk = c.first_names.ensures.walk;
}
  where
    open c use {args as a, args.question.now as q}
