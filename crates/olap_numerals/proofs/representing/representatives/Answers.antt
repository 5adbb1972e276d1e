use Rattle.std.proofs.{Common.refl, lemmas.Cmp.{int_cmp_total, int_eq_equiv}, lemmas.List.Filters.dedup_is}
use Rattle.std.proofs.lemmas.List.Kept.{Contains-dedup, Contains-from_dedup, IsStrictlySortedBy-dedup}
use Rattle.std.proofs.lemmas.List.Sorted.{Contains-permutation, IsPermutation-sym}
use Rattle.olap_numerals.proofs.OrderLemmas.{in_order, same_number}
use Rattle.olap_numerals.proofs.representing.representatives.Goals as goal

pub returns : goal.returns
returns c =
    let is = dedup_is _ _ _ c.dedup.ensures.filtered in
    let moved = c.sort_unstable.ensures.permutation in
    let near = c.in_ok-numbers.ensures in
    rw is (record {
      ascending =
          in_order _ (IsStrictlySortedBy-dedup int_cmp_total (λ x y. refl) _ c.sort_unstable.ensures.sorted);
      sound = λ a h.
          (near a).0 (Contains-permutation _ _ a (IsPermutation-sym _ _ moved) (Contains-from_dedup _ _ a h));
      complete = λ a h. Contains-dedup int_eq_equiv same_number _ a (Contains-permutation _ _ a moved ((near a).1 h));
    })
