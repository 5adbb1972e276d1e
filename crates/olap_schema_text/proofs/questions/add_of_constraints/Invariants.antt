-- The pairs of the constraints so far are added.
use Rattle.std.{proofs.Common.{◌≡◌, length, map}, specs.List.fold, specs.Prelude.flat_map}
use Rattle.olap_ast.specs.{Atoms.{comparisons, equalities}, Pairs.{with_number, with_pair}, Trees.constraint_of}
use Rattle.olap_schema_text.specs.Reading.{number_pair_of, pair_of}
use Rattle.olap_schema_text.proofs.questions.add_of_constraints.Given as goal

abbrev pub invariant-constraints : goal.invariant-constraints
invariant-constraints l = record {
  texts :
      fold with_pair (map pair_of l.pairs.items) (flat_map (λ c. equalities c.formula) (map constraint_of l.left))
      ≡ fold with_pair (map pair_of l.initial.pairs.items)
      (flat_map (λ c. equalities c.formula) (map constraint_of l.fn.constraints));
  numbers :
      fold with_number (map number_pair_of l.numbers.items)
      (flat_map (λ c. comparisons c.formula) (map constraint_of l.left))
      ≡ fold with_number (map number_pair_of l.initial.numbers.items)
      (flat_map (λ c. comparisons c.formula) (map constraint_of l.fn.constraints));
}

abbrev pub decreases-constraints : goal.decreases-constraints
decreases-constraints l = length l.left
