-- Each kind of formula that has parts, or atoms.
use Rattle.std.proofs.Common.{◌≡◌, ◌+◌, ◌++◌, ◌∙◌, map, refl, ap, sym, arith}
use Rattle.olap_ast.specs.{Atoms.{comparisons, equalities}, Pairs.{with_number, with_pair}}
use Rattle.olap_ast.specs.{Trees.{formula_of, terms_of}, Valid.{node_count, node_count_of_terms}}
use Rattle.olap_ast.specs.declared.formulas.Formula.{Formula}
use Rattle.olap_schema_text.proofs.JointLemmas.{counted, joined_by, joint_comparisons, joint_equalities, joint_nodes}
use Rattle.olap_schema_text.{proofs.PairLemmas.{both_added, same_atoms}, specs.Reading.{number_pair_of, pair_of}}
use Rattle.olap_schema_text.proofs.pairing.+pairs.Goals as goal

pub add_pairs-add_pairs-requires : goal.add_pairs-add_pairs-requires
add_pairs-add_pairs-requires t c =
    let n : node_count (formula_of c.args.f.now) ≡ 1 + node_count (formula_of c.in-Not.g.value) = counted c.in-Not.is in
    (omega (arith, c.decreases, n, counted (sym c.deref.ensures)), tt)

pub add_pairs-returns-in-Not-clause-texts : goal.add_pairs-returns-in-Not-clause-texts
add_pairs-returns-in-Not-clause-texts t c =
    same_atoms c.add_pairs.result with_pair (map pair_of c.args.pairs.now.items)
    (map pair_of c.add_pairs.new.pairs.items)
    (ap (λ (z : Formula). equalities (formula_of z)) c.deref.ensures
    ∙ ap (λ (z : Formula). equalities (formula_of z)) (sym c.in-Not.is)) c.add_pairs.ensures.texts

pub add_pairs-returns-in-Not-clause-numbers : goal.add_pairs-returns-in-Not-clause-numbers
add_pairs-returns-in-Not-clause-numbers t c =
    same_atoms c.add_pairs.result with_number (map number_pair_of c.args.numbers.now.items)
    (map number_pair_of c.add_pairs.new.numbers.items)
    (ap (λ (z : Formula). comparisons (formula_of z)) c.deref.ensures
    ∙ ap (λ (z : Formula). comparisons (formula_of z)) (sym c.in-Not.is)) c.add_pairs.ensures.numbers

pub add_pairs-add_pairs-requires-in-And : goal.add_pairs-add_pairs-requires-in-And
add_pairs-add_pairs-requires-in-And t c =
    let x = formula_of c.in-And.g.value in
    let y = formula_of c.in-And.h.value in
    let j = joined_by c.args.f.now x y refl refl refl refl refl c.in-And.is in
    let n : node_count (formula_of c.args.f.now) ≡ 1 + node_count x + node_count y =
    ap node_count j.1 ∙ joint_nodes j.0 x y in
    (omega (arith, c.decreases, n, counted (sym c.deref-in-And.ensures)), tt)

pub add_pairs-add_pairs-requires-in-And-2 : goal.add_pairs-add_pairs-requires-in-And-2
add_pairs-add_pairs-requires-in-And-2 t c =
    let x = formula_of c.in-And.g.value in
    let y = formula_of c.in-And.h.value in
    let j = joined_by c.args.f.now x y refl refl refl refl refl c.in-And.is in
    let n : node_count (formula_of c.args.f.now) ≡ 1 + node_count x + node_count y =
    ap node_count j.1 ∙ joint_nodes j.0 x y in
    (omega (arith, c.decreases, n, counted (sym c.deref-in-And-2.ensures)), tt)

pub add_pairs-returns-in_ok-add_pairs-in-And-clause-texts : goal.add_pairs-returns-in_ok-add_pairs-in-And-clause-texts
add_pairs-returns-in_ok-add_pairs-in-And-clause-texts t c =
    let x = formula_of c.in-And.g.value in
    let y = formula_of c.in-And.h.value in
    let j = joined_by c.args.f.now x y refl refl refl refl refl c.in-And.is in
    both_added c.add_pairs-in-And-2.result with_pair (map pair_of c.args.pairs.now.items) _
    (map pair_of c.add_pairs-in-And-2.new.pairs.items)
    (equalities (formula_of c.deref-in-And.result.now)) (equalities (formula_of c.deref-in-And-2.result.now)) _
    (sym (ap equalities j.1 ∙ joint_equalities j.0 x y
    ∙ (λ i. equalities (formula_of (sym c.deref-in-And.ensures i))
    ++ equalities (formula_of (sym c.deref-in-And-2.ensures i)))))
    c.in_ok-add_pairs-in-And.ensures.texts c.add_pairs-in-And-2.ensures.texts

pub add_pairs-returns-in_ok-add_pairs-in-And-clause-numbers :
    goal.add_pairs-returns-in_ok-add_pairs-in-And-clause-numbers
add_pairs-returns-in_ok-add_pairs-in-And-clause-numbers t c =
    let x = formula_of c.in-And.g.value in
    let y = formula_of c.in-And.h.value in
    let j = joined_by c.args.f.now x y refl refl refl refl refl c.in-And.is in
    both_added c.add_pairs-in-And-2.result with_number (map number_pair_of c.args.numbers.now.items) _
    (map number_pair_of c.add_pairs-in-And-2.new.numbers.items)
    (comparisons (formula_of c.deref-in-And.result.now)) (comparisons (formula_of c.deref-in-And-2.result.now)) _
    (sym (ap comparisons j.1 ∙ joint_comparisons j.0 x y
    ∙ (λ i. comparisons (formula_of (sym c.deref-in-And.ensures i))
    ++ comparisons (formula_of (sym c.deref-in-And-2.ensures i)))))
    c.in_ok-add_pairs-in-And.ensures.numbers c.add_pairs-in-And-2.ensures.numbers

pub add_pairs-add_of_terms-requires : goal.add_pairs-add_of_terms-requires
add_pairs-add_of_terms-requires t c =
    let n : node_count (formula_of c.args.f.now) ≡ 1 + node_count_of_terms (terms_of c.in-One.terms) =
    counted c.in-One.is in
    (omega (arith, c.decreases, n), tt)

pub add_pairs-returns-in-One-clause-texts : goal.add_pairs-returns-in-One-clause-texts
add_pairs-returns-in-One-clause-texts t c =
    same_atoms c.add_of_terms.result with_pair (map pair_of c.args.pairs.now.items)
    (map pair_of c.add_of_terms.new.pairs.items) (ap (λ (z : Formula). equalities (formula_of z)) (sym c.in-One.is))
    c.add_of_terms.ensures.texts

pub add_pairs-returns-in-One-clause-numbers : goal.add_pairs-returns-in-One-clause-numbers
add_pairs-returns-in-One-clause-numbers t c =
    same_atoms c.add_of_terms.result with_number (map number_pair_of c.args.numbers.now.items)
    (map number_pair_of c.add_of_terms.new.numbers.items)
    (ap (λ (z : Formula). comparisons (formula_of z)) (sym c.in-One.is)) c.add_of_terms.ensures.numbers
