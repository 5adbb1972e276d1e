use Rattle.std.proofs.{Common.refl, lemmas.Cmp.{int_cmp_total, int_eq_equiv}, lemmas.List.Filters.dedup_is}
use Rattle.std.proofs.lemmas.List.Kept.{Contains-dedup, Contains-from_dedup, IsStrictlySortedBy-dedup}
use Rattle.std.proofs.lemmas.List.Sorted.{Contains-permutation, IsPermutation-sym}
use Rattle.olap_numerals.proofs.OrderLemmas.{in_order, same_number}
use Rattle.olap_ast.proofs.collecting.numbers.Goals as goal

pub returns : goal.returns
returns c =
    let moved = c.sort_unstable.ensures.permutation in
    let gathered = rw c.new-numbers.ensures.items at c.in_ok-gather_numbers.ensures in
    rw (c.from_vec.ensures, dedup_is _ _ _ c.dedup.ensures.filtered) (record {
      ordered =
          in_order _ (IsStrictlySortedBy-dedup int_cmp_total (λ x y. refl) _ c.sort_unstable.ensures.sorted);
      sound = λ n h. rw (← gathered) (Contains-permutation _ _ n (IsPermutation-sym _ _ moved)
          (Contains-from_dedup _ _ n h));
      complete = λ n h. Contains-dedup int_eq_equiv same_number _ n
          (Contains-permutation _ _ n moved (rw gathered h));
    })
