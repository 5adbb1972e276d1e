use Rattle.std.proofs.{Common.{refl, arith}, lemmas.Cmp.{int_cmp_total, int_eq_equiv}, lemmas.List.Filters.dedup_is}
use Rattle.std.proofs.lemmas.List.Kept.{Contains-dedup, Contains-from_dedup, IsStrictlySortedBy-dedup}
use Rattle.std.proofs.lemmas.List.Sorted.{Contains-permutation, IsPermutation-sym}
use Rattle.olap_numerals.proofs.OrderLemmas.{in_order, same_number}
use Rattle.olap_ast.{proofs.TextLemmas.numbers_on-append, specs.Atoms.{comparisons, numbers_on}}
use Rattle.olap_ast.specs.{Schema.Constraint, Trees.{constraint_of, formula_of}}
use Rattle.olap_names.proofs.CandidateLemmas.{gathered_all}
use Rattle.olap_names.proofs.candidates.numbers_of.Goals as goal

pub returns : goal.returns
returns c =
    let moved = c.sort_unstable.ensures.permutation in
    let gathered = gathered_all (numbers_on c.args.c.0) (λ (k : Constraint). comparisons k.formula) constraint_of
    c.args.constraints.now c.constraints.constraint-index (comparisons (formula_of c.args.question.now))
    (numbers_on-append c.args.c.0) (omega arith) c.constraints.invariant c.in_ok-gather_numbers-2.ensures in
    rw (dedup_is _ _ _ c.dedup.ensures.filtered) (record {
      ordered = in_order _ (IsStrictlySortedBy-dedup int_cmp_total (λ x y. refl) _ c.sort_unstable.ensures.sorted);
      sound = λ n h. rw (← gathered) (Contains-permutation _ _ n (IsPermutation-sym _ _ moved)
          (Contains-from_dedup _ _ n h));
      complete = λ n h. Contains-dedup int_eq_equiv same_number _ n
          (Contains-permutation _ _ n moved (rw gathered h));
    })
