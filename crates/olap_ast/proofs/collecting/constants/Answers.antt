use Rattle.std.proofs.lemmas.List.Filters.{dedup_is}
use Rattle.std.proofs.lemmas.List.Kept.{Contains-dedup, Contains-from_dedup, IsStrictlySortedBy-dedup}
use Rattle.std.proofs.lemmas.List.Sorted.{Contains-permutation, IsPermutation-sym}
use Rattle.std.specs.Cmp.Lexicographic.{texts_ties, nat_list_cmp_total, nat_list_eq_equiv}
use Rattle.olap_ast.proofs.TextLemmas.{in_order, same_text}
use Rattle.olap_ast.proofs.collecting.constants.Goals as goal

pub returns : goal.returns
returns c =
    let moved = c.sort_unstable.ensures.permutation in
    let gathered = rw c.new-texts.ensures.items at c.in_ok-gather.ensures in
    rw (c.from_vec.ensures, dedup_is _ _ _ c.dedup.ensures.filtered) (record {
      ordered =
          in_order _ (IsStrictlySortedBy-dedup nat_list_cmp_total texts_ties _ c.sort_unstable.ensures.sorted);
      sound = λ text h. rw (← gathered) (Contains-permutation _ _ text (IsPermutation-sym _ _ moved)
          (Contains-from_dedup _ _ text h));
      complete = λ text h. Contains-dedup nat_list_eq_equiv same_text _ text
          (Contains-permutation _ _ text moved (rw gathered h));
    })
