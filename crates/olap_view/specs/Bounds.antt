-- How large a summary may be.
--     IsUpTo        a count and a sum up to these numbers
--     IsJoinable    so small that no number wraps where two are joined
--     IsOfValues    a summary of some values of 64 bits
use Rattle.std.specs.Prelude.{ℕ, ◌*◌, ◌^◌, ◌≤◌, pos, neg_ℤ, ◌≤ℤ◌, FitsSigned}
use Rattle.std.specs.Int.{w64}
use Rattle.olap_base.specs.Summaries.{Summary}

-- a count of at most n, and a sum of magnitude at most m
pub record IsUpTo (n m : ℕ) (s : Summary) : Type 0 where
  pub count : s.count ≤ n
  pub sum_from : neg_ℤ (pos m) ≤ℤ s.sum
  pub sum_to : s.sum ≤ℤ pos m

-- no number wraps where two such are joined
abbrev pub IsJoinable : Summary → Type 0
IsJoinable = IsUpTo (2 ^ 62) (2 ^ 125)

-- the total of one value or more, and at most n, of 64 bits
pub record IsOfValues (n : ℕ) (s : Summary) : Type 0 where
  pub some : 1 ≤ s.count
  pub up_to : IsUpTo n (n * 2 ^ 63) s
  pub least : FitsSigned w64 s.least
  pub greatest : FitsSigned w64 s.greatest
