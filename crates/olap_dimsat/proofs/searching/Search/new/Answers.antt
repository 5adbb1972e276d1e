-- What the graph and the constraints stand for is the schema.
use Rattle.std.{proofs.Common.{refl, sym, subst, map}, specs.Prelude.◌≤◌}
use Rattle.olap_base.specs.Limits.{most_constants}
use Rattle.olap_ast.specs.{Atoms.{all_comparisons, all_equalities}, Pairs.pair_count, Schema.Schema}
use Rattle.olap_ast.specs.Trees.{constraint_of, formula_of}
use Rattle.olap_schema.specs.Schemas.{schema_of}
use Rattle.olap_dimsat.proofs.MadeLemmas.{blank_for, made_first}
use Rattle.olap_names.proofs.WholeLemmas.{whole_is}
use Rattle.olap_dimsat.proofs.searching.Search.new.Goals as goal

pub pose-requires-clause-root : goal.pose-requires-clause-root
pose-requires-clause-root c = rw c.graph-graph.ensures c.requires.root

pub pose-requires-clause-valid : goal.pose-requires-clause-valid
pose-requires-clause-valid c =
    rw (whole_is (schema_of c.args.schema.now) c.graph-graph.result.now
    (map constraint_of c.constraints-constraints.result.now) c.graph-graph.ensures
    c.constraints-constraints.ensures.list)
    c.constraints-constraints.ensures.valid

pub pose-requires-clause-formula : goal.pose-requires-clause-formula
pose-requires-clause-formula c = rw c.graph-graph.ensures c.requires.question

pub pose-requires-clause-few : goal.pose-requires-clause-few
pose-requires-clause-few c =
    subst (λ (s : Schema). pair_count (all_equalities s (formula_of c.args.question.now))
    (all_comparisons s (formula_of c.args.question.now)) ≤ most_constants)
    (sym (whole_is (schema_of c.args.schema.now) c.graph-graph.result.now
    (map constraint_of c.constraints-constraints.result.now)
    c.graph-graph.ensures c.constraints-constraints.ensures.list)) c.requires.few

pub new-requires : goal.new-requires
new-requires c = rw c.graph-graph.ensures c.requires.root

pub returns-clause-made : goal.returns-clause-made
returns-clause-made c =
    let s = schema_of c.args.schema.now in
    let q = formula_of c.args.question.now in
    let w = whole_is s g (map constraint_of c.constraints-constraints.result.now)
    c.graph-graph.ensures c.constraints-constraints.ensures.list in
    made_first s q g _ c.graph-graph.ensures c.constraints-constraints.ensures.valid
    (rw (← w) c.in_ok-posed.ensures)
    l.decided
    (blank_for g _ c.in_ok-leaf.leaf.frozen c.args.root c.graph-graph.ensures refl l.root l.edges l.names)
    l.room
    (blank_for g _ c.in_ok-best.best c.args.root c.graph-graph.ensures refl b.root b.edges b.names)
  where
    open c use {graph-graph.result.now as g, in_ok-leaf.ensures as l, in_ok-best.ensures as b}
