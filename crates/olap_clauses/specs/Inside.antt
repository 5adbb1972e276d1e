-- The table of values that a `Trail` keeps. No public clause speaks of it.
--     IsInside        the literal is of one of this many variables
--     shows           the trail has this variable with this sign
--     unknown_count   how many variables are unknown
use Rattle.std.specs.Prelude.{ℕ, suc, ◌<◌, Bool, true, false, ◌&&◌, ◌||◌, ◌==◌, not, List, [], ◌∷◌}
use Rattle.olap_clauses.specs.declared.values.Value.{Value}
use Rattle.olap_clauses.specs.declared.values.Value.TheVariants.{Unknown, Yes, No}
use Rattle.olap_clauses.specs.declared.trails.Step.{Step}

-- the literal is of one of this many variables
abbrev pub IsInside : ℕ → Step → Type 0
IsInside n s = s.lit.variable < n

-- the two signs are the same
abbrev pub same_sign : Bool → Bool → Bool
same_sign true b = b
same_sign false b = not b

-- the trail has this variable with this sign
abbrev pub shows : List Step → ℕ → Bool → Bool
shows [] x b = false
shows (s ∷ ss) x b = ((s.lit.variable == x) && same_sign s.lit.positive b) || shows ss x b

-- how many variables are unknown
abbrev pub unknown_count : List Value → ℕ
unknown_count [] = 0
unknown_count (Unknown ∷ vs) = suc (unknown_count vs)
unknown_count (Yes ∷ vs) = unknown_count vs
unknown_count (No ∷ vs) = unknown_count vs
