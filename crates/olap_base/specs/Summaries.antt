-- Summaries of values: their number, their sum, the least and the greatest of them.
--     Summary     these four numbers
--     of_value    the summary of one value
--     joined      the summary of two lots of values together
--     ◌⊕◌         the same where there may be no values
--     total       the summary of several lots together
use Rattle.std.specs.Prelude.{◌≡◌, ℕ, ◌+◌, List, [], ◌∷◌, ℤ, ◌+ℤ◌, length, map, fold, sum_by, Option, Some, None}
use Rattle.std.specs.Int.{int_min, int_max}

-- how many values there are, their sum, the least and the greatest of them
pub record Summary : Type 0 where
  pub count : ℕ
  pub sum : ℤ
  pub least : ℤ
  pub greatest : ℤ

-- the summary of one value
abbrev pub of_value : ℤ → Summary
of_value v = record { count = 1; sum = v; least = v; greatest = v }

-- the summary of two lots of values together
abbrev pub joined : Summary → Summary → Summary
joined s t = record {
  count = s.count + t.count;
  sum = s.sum +ℤ t.sum;
  least = int_min s.least t.least;
  greatest = int_max s.greatest t.greatest;
}

-- nothing beside a summary leaves it as it is
infixr 60 ◌⊕◌
abbrev pub ◌⊕◌ : Option Summary → Option Summary → Option Summary
None ⊕ t = t
Some s ⊕ None = Some s
Some s ⊕ Some t = Some (joined s t)

-- the total of some summaries; none if there are none
abbrev pub total : List Summary → Option Summary
total [] = None
total (s ∷ ss) = Some s ⊕ total ss

-- ---- column by column

-- the total of some values has their number, their sum, the least and the greatest of them
abbrev pub TotalsOfValues : Type 0
TotalsOfValues =
    (v : ℤ) (vs : List ℤ) → total (map of_value (v ∷ vs)) ≡ Some (record {
      count = length (v ∷ vs);
      sum = fold ◌+ℤ◌ v vs;
      least = fold int_min v vs;
      greatest = fold int_max v vs;
    })

-- the total of some summaries has the sum of their counts, the sum of their sums, the least of their leasts and the
-- greatest of their greatests
abbrev pub TotalsOfSummaries : Type 0
TotalsOfSummaries =
    (s : Summary) (ss : List Summary) → total (s ∷ ss) ≡ Some (record {
      count = sum_by (λ t. t.count) (s ∷ ss);
      sum = fold ◌+ℤ◌ s.sum (map (λ t. t.sum) ss);
      least = fold int_min s.least (map (λ t. t.least) ss);
      greatest = fold int_max s.greatest (map (λ t. t.greatest) ss);
    })
