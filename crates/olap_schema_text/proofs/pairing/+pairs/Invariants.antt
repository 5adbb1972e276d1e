-- The pairs of the parts so far are added. The measure is the size of what is gone through.
use Rattle.std.{proofs.Common.{◌≡◌, ◌≤◌, ◌+◌, ◌*◌, map}, specs.List.fold}
use Rattle.olap_ast.specs.{Atoms.{comparisons_of_terms, equalities_of_terms}, Pairs.{with_number, with_pair}}
use Rattle.olap_ast.specs.{Trees.{formula_of, terms_of}, Valid.{node_count, node_count_of_terms}}
use Rattle.olap_schema_text.specs.Reading.{number_pair_of, pair_of}
use Rattle.olap_schema_text.proofs.pairing.+pairs.Given as goal

abbrev pub decreases-add_pairs : goal.decreases-add_pairs
decreases-add_pairs l = 2 * node_count (formula_of l.f.now)

abbrev pub decreases-add_of_terms : goal.decreases-add_of_terms
decreases-add_of_terms l = 2 * node_count_of_terms (terms_of l.terms.now) + 1

abbrev pub invariant-add_of_terms-parts : goal.invariant-add_of_terms-parts
invariant-add_of_terms-parts l = record {
  texts :
      fold with_pair (map pair_of l.pairs.items) (equalities_of_terms (terms_of l.left))
      ≡ fold with_pair (map pair_of l.initial.pairs.items) (equalities_of_terms (terms_of l.fn.terms));
  numbers :
      fold with_number (map number_pair_of l.numbers.items) (comparisons_of_terms (terms_of l.left))
      ≡ fold with_number (map number_pair_of l.initial.numbers.items) (comparisons_of_terms (terms_of l.fn.terms));
  smaller : node_count_of_terms (terms_of l.left) ≤ node_count_of_terms (terms_of l.fn.terms);
}
