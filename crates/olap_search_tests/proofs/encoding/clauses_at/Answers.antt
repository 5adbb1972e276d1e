-- The schema's graph and constraints, as its candidates and the encoder take them.
use Rattle.std.proofs.Common.{◌≡◌, List, map, refl, subst, sym}
use Rattle.olap_base.specs.Graph.{Graph}
use Rattle.olap_ast.proofs.{ConstantLemmas.constant_in_constraint, SourceLemmas.no_more_constants}
use Rattle.olap_ast.specs.{Formula.Formula.Truth, Schema.{Constraint, Schema}, Trees.constraint_of, Valid.IsValidSchema}
use Rattle.olap_encoding.proofs.SpokenLemmas.{spoken}
use Rattle.olap_names.{proofs.NameableLemmas.can_be_named, specs.Names.with_graph}
use Rattle.olap_schema.specs.Schemas.{schema_of}
use Rattle.olap_search_tests.proofs.encoding.clauses_at.Goals as goal

-- the parts of a valid schema are one
valid_parts : (s : Schema) (g : Graph) (cs : List Constraint) → g ≡ s.graph → cs ≡ s.constraints → IsValidSchema s
    → IsValidSchema (with_graph g cs)
valid_parts s g cs p q v = subst (λ t. IsValidSchema t) (λ i. record { graph = sym p i; constraints = sym q i }) v

pub of-requires : goal.of-requires
of-requires given c =
    let cs = map constraint_of c.constraints-constraints.result.now in
    let v = valid_parts (schema_of c.args.schema.now) g cs c.graph-graph.ensures t.list t.valid in
    can_be_named g cs c.args.root.0 Truth v.formulas tt (no_more_constants (with_graph g cs) Truth v refl refl)
  where
    open c use {graph-graph.result.now as g, constraints-constraints.ensures as t}

pub clause_count-requires-clause-spoken : goal.clause_count-requires-clause-spoken
clause_count-requires-clause-spoken given c =
    let cs = map constraint_of c.constraints-constraints.result.now in
    let v = valid_parts (schema_of c.args.schema.now) g cs c.graph-graph.ensures t.list t.valid in
    record {
      roots = λ k h. (v.roots k h).1;
      constraints = λ k h.
          spoken _ k.root k.formula (v.formulas k h) (constant_in_constraint (with_graph g cs) Truth k h);
      question = tt;
    }
  where
    open c use {graph-graph.result.now as g, constraints-constraints.ensures as t}
