-- The names of a valid schema and a question.
use Rattle.std.proofs.Common.{ℕ, ◌<◌, ◌≤◌, List, subst}
use Rattle.olap_base.specs.{Graph.{Graph, category_count}, Limits.most_constants}
use Rattle.olap_ast.proofs.{AtomLemmas.{AreOf, all_each, has_kinds}, ComparedLemmas.constants_counted}
use Rattle.olap_ast.specs.{Atoms.Equality, Formula.Formula, Pairs.pair_count, Schema.Constraint}
use Rattle.olap_ast.specs.Valid.{IsFormulaAt, IsQuestion, IsValidSchema}
use Rattle.olap_names.specs.Names.{CanBeNamed, atoms, number_atoms, with_graph}

-- atoms of the graph, few of them, can be named
pub can_be_named : (g : Graph) (cs : List Constraint) (r : ℕ) (q : Formula) → AreOf g cs → IsFormulaAt g r q
    → pair_count (atoms cs q) (number_atoms cs q) ≤ most_constants → CanBeNamed g cs q
can_be_named g cs r q f v few = record {
  categories = all_each (λ (a : Equality). a.category < category_count g) (with_graph g cs) r q (λ d k h. h.0) f v;
  kinds = has_kinds (with_graph g cs) r q f v;
  few = few;
}

-- so those of a valid schema and a question can
pub valid_named : (g : Graph) (cs : List Constraint) (r : ℕ) (q : Formula) → IsValidSchema (with_graph g cs)
    → IsQuestion (with_graph g cs) r q → CanBeNamed g cs q
valid_named g cs r q v t = can_be_named g cs r q v.formulas t.formula
    (subst (λ n. n ≤ most_constants) (constants_counted cs q) t.constants_fit)
