-- How large totals may be.
use Rattle.std.proofs.Common.{ℕ, suc, ◌+◌, ◌*◌, ◌^◌, ◌≤◌, List, [], ◌∷◌, length, map, arith, ℤ, Option, Some, None, IfSome, w64}
use Rattle.std.{proofs.lemmas.Int.ints, proofs.lemmas.List.Elements.{All-head, All-tail}, specs.Prelude.All}
use Rattle.olap_base.{proofs.GeneralLemmas.either_fits, specs.Limits.{most_count, most_sum}}
use Rattle.olap_base.specs.{Summaries.{Summary, joined, of_value, total, ◌⊕◌}, Views.Row}
use Rattle.olap_view.specs.{Bounds.{IsJoinable, IsOfValues, IsUpTo}, Stores.IsStored}
use mir.Val.{SFits}

-- ---- counts and sums

-- what is up to these is up to greater ones
pub up_to_more : (n m k l : ℕ) (s : Summary) → n ≤ k → m ≤ l → IsUpTo n m s → IsUpTo k l s
up_to_more n m k l s h g u = grind (arith, ints)

-- a summary up to smaller numbers may be joined
pub joinable : (n m : ℕ) (s : Summary) → n ≤ 2 ^ 62 → m ≤ 2 ^ 125 → IsUpTo n m s → IsJoinable s
joinable n m = up_to_more n m (2 ^ 62) (2 ^ 125)

-- counts and sums are added
pub joined_up_to : (n m k l : ℕ) (s t : Summary) → IsUpTo n m s → IsUpTo k l t → IsUpTo (n + k) (m + l) (joined s t)
joined_up_to n m k l s t u v = grind (arith, ints)

-- ---- rows that are stored

-- a stored row is within its bounds
pub stored_up_to : (r : Row ℕ) → IsStored r → IsUpTo most_count most_sum r.summary
stored_up_to r q = let a = q.few in record { count = omega arith; sum_from = q.sum_from; sum_to = q.sum_to }

-- the total of stored rows, by how many they are
pub total_of_stored : (rows : List (Row ℕ)) → All IsStored rows
    → IfSome (total (map (λ r. r.summary) rows)) (IsUpTo (length rows * most_count) (length rows * most_sum))
total_of_stored [] a = tt
total_of_stored (r ∷ rows) a =
    go (total (map (λ (q : Row ℕ). q.summary) rows)) (total_of_stored rows (All-tail IsStored r rows a))
  where
    one : IsUpTo most_count most_sum r.summary
    one = stored_up_to r (All-head IsStored r rows a)

    go : (o : Option Summary) → IfSome o (IsUpTo (length rows * most_count) (length rows * most_sum))
        → IfSome (Some r.summary ⊕ o) (IsUpTo (suc (length rows) * most_count) (suc (length rows) * most_sum))
    go None h = up_to_more most_count most_sum (suc (length rows) * most_count) (suc (length rows) * most_sum) r.summary
        (omega arith) (omega arith) one
    go (Some s) h = up_to_more (most_count + length rows * most_count) (most_sum + length rows * most_sum)
        (suc (length rows) * most_count) (suc (length rows) * most_sum) (joined r.summary s) (omega arith) (omega arith)
        (joined_up_to most_count most_sum (length rows * most_count) (length rows * most_sum) r.summary s one h)

-- ---- values of 64 bits

-- one value's summary is small
pub value_up_to : (v : ℤ) → SFits w64 v → IsUpTo 1 (2 ^ 63) (of_value v)
value_up_to v f = record { count = omega arith; sum_from = omega (arith, ints); sum_to = omega (arith, ints) }

-- it is of one value
pub value_is : (v : ℤ) → SFits w64 v → IsOfValues 1 (of_value v)
value_is v f = record { some = omega arith; up_to = value_up_to v f; least = f; greatest = f }

-- what is of some values is of more
pub of_values_more : (n k : ℕ) (s : Summary) → n ≤ k → IsOfValues n s → IsOfValues k s
of_values_more n k s h q = grind (arith, up_to_more)

-- one value more
joined_of_values : (n : ℕ) (v : ℤ) (s : Summary) → SFits w64 v → IsOfValues n s
    → IsOfValues (suc n) (joined (of_value v) s)
joined_of_values n v s f q = grind (arith, up_to_more, joined_up_to, value_up_to, either_fits)

-- the total of values of 64 bits, by how many they are
pub total_of_value_list : (vs : List ℤ) → All (SFits w64) vs → IfSome (total (map of_value vs)) (IsOfValues (length vs))
total_of_value_list [] a = tt
total_of_value_list (v ∷ vs) a =
    go (total (map of_value vs)) (total_of_value_list vs (All-tail (SFits w64) v vs a))
  where
    f : SFits w64 v
    f = All-head (SFits w64) v vs a

    go : (o : Option Summary) → IfSome o (IsOfValues (length vs))
        → IfSome (Some (of_value v) ⊕ o) (IsOfValues (suc (length vs)))
    go None h = of_values_more 1 (suc (length vs)) (of_value v) (omega arith) (value_is v f)
    go (Some s) h = joined_of_values (length vs) v s f h
