-- The pairs of one constraint more.
use Rattle.std.proofs.Common.{◌≡◌, ◌∷◌, map, rules}
use Rattle.olap_ast.specs.{Atoms.{comparisons, equalities}, Pairs.{with_number, with_pair}, Trees.formula_of}
use Rattle.olap_schema_text.{proofs.PairLemmas.rest_added, specs.Reading.{number_pair_of, pair_of}}
use Rattle.olap_schema_text.proofs.questions.add_of_constraints.Goals as goal

pub constraints-preserved : goal.constraints-preserved
constraints-preserved c =
    let f = formula_of c.in-Some.constraint.now.formula in
    let v = c.constraints.invariant in
    let first : c.constraints.left.now ≡ c.in-Some.constraint.now ∷ c.in-Some.others.now = search rules in
    record {
      texts = rest_added with_pair (map pair_of c.constraints.pairs.items) _ _ (equalities f) _ (rw first at v.texts)
          c.in_ok-add_pairs.ensures.texts;
      numbers = rest_added with_number (map number_pair_of c.constraints.numbers.items) _ _ (comparisons f) _
          (rw first at v.numbers) c.in_ok-add_pairs.ensures.numbers;
    }
