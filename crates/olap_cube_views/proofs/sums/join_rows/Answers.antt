-- The sorted rows are the same rows, and so are the joined ones.
use Rattle.std.proofs.Common.{◌≡◌, List, [], length, take, sym, ap, subst, ◌∙◌, arith, rules}
use Rattle.std.proofs.lemmas.{Cmp.nat_list_cmp_total, List.{nil_from_length, with_items_is}}
use Rattle.std.proofs.lemmas.{List.Sorted.{IsPermutation-map, answers_always}, Map.Keys.sorted_from_all_adjacent}
use Rattle.std.specs.{List.Sorted.{IsSortedByKey, IsStrictlySortedBy}, Map.keys_of}
use Rattle.olap_base.specs.Limits.{most_count}
use Rattle.olap_cube_views.proofs.SumLemmas.{summary_permuted, within_permuted}
use Rattle.olap_cube_views.specs.{CubeTallies.{IsWithin, entries_of, key_cmp, summary_at}, Seen.entry_of}
use Rattle.olap_cube_views.specs.declared.views.CubeRow as told
use Rattle.olap_cube_views.proofs.sums.join_rows.Goals as goal

pub join_neighbours-count-requires-clause-within : goal.join_neighbours-count-requires-clause-within
join_neighbours-count-requires-clause-within c =
    subst (λ (rs : List told.CubeRow). IsWithin most_count (entries_of rs)) (sym c.as_mut_slice.ensures.value)
    (within_permuted most_count (entries_of old) (entries_of sorted)
    (IsPermutation-map entry_of old sorted c.sort_unstable_by_key.ensures.permutation) c.requires)
  where
    open c use {args.rows.now.items as old, sort_unstable_by_key.new.self.items as sorted}

pub join_neighbours-count-requires-clause-sorted : goal.join_neighbours-count-requires-clause-sorted
join_neighbours-count-requires-clause-sorted c =
    subst (λ (rs : List told.CubeRow). IsSortedByKey (λ (r : told.CubeRow). r.members.places) key_cmp rs)
    (sym c.as_mut_slice.ensures.value)
    (c.sort_unstable_by_key.ensures.sorted (λ r. r.members.places) (answers_always _ _ _ (λ f a r g h. search rules)))

pub returns-then-not-is_empty-clause-same : goal.returns-then-not-is_empty-clause-same
returns-then-not-is_empty-clause-same c = λ q.
    let cut : c.truncate.new.self.items ≡ take c.join_neighbours-count.result c.join_neighbours-count.new.rows =
    c.truncate.ensures.items ∙ ap (take c.join_neighbours-count.result)
    (with_items_is c.sort_unstable_by_key.new.self c.join_neighbours-count.new.rows
    (c.join_neighbours-count.ensures.size ∙ c.as_mut_slice.ensures.len)) in
    ap (λ (rs : List told.CubeRow). summary_at (entries_of rs) q) cut
    ∙ c.join_neighbours-count.ensures.same q
    ∙ ap (λ (rs : List told.CubeRow). summary_at (entries_of rs) q) c.as_mut_slice.ensures.value
    ∙ summary_permuted (entries_of old) (entries_of sorted)
    (IsPermutation-map entry_of old sorted c.sort_unstable_by_key.ensures.permutation) q
  where
    open c use {args.rows.now.items as old, sort_unstable_by_key.new.self.items as sorted}

pub returns-then-not-is_empty-clause-within : goal.returns-then-not-is_empty-clause-within
returns-then-not-is_empty-clause-within c = λ n w.
    let cut : c.truncate.new.self.items ≡ take c.join_neighbours-count.result c.join_neighbours-count.new.rows =
    c.truncate.ensures.items ∙ ap (take c.join_neighbours-count.result)
    (with_items_is c.sort_unstable_by_key.new.self c.join_neighbours-count.new.rows
    (c.join_neighbours-count.ensures.size ∙ c.as_mut_slice.ensures.len)) in
    subst (λ (rs : List told.CubeRow). IsWithin n (entries_of rs)) (sym cut)
    (c.join_neighbours-count.ensures.within n
    (subst (λ (rs : List told.CubeRow). IsWithin n (entries_of rs)) (sym c.as_mut_slice.ensures.value)
    (within_permuted n (entries_of old) (entries_of sorted)
    (IsPermutation-map entry_of old sorted c.sort_unstable_by_key.ensures.permutation) w)))
  where
    open c use {args.rows.now.items as old, sort_unstable_by_key.new.self.items as sorted}

pub returns-else-not-is_empty-clause-order : goal.returns-else-not-is_empty-clause-order
returns-else-not-is_empty-clause-order c =
    let none : length c.args.rows.now.items ≡ 0 = search (rules, c.if-not-is_empty.ensures) in
    subst (λ (rs : List told.CubeRow). IsStrictlySortedBy key_cmp (keys_of (entries_of rs)))
    (sym (nil_from_length c.args.rows.now.items none))
    (sorted_from_all_adjacent nat_list_cmp_total [] [] (λ k l. absurd (omega arith)))
