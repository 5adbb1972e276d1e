-- How much of a search is left: each turn makes it less, so a search ends.
--     left   how much is left to decide over the first trail's variables after the second
--     rank   how much is left to decide over n variables after this trail
--     tree   how much is left where nothing stands
use Rattle.std.specs.Prelude.{ℕ, zero, suc, ◌+◌, cond, List, [], ◌∷◌, length}
use Rattle.olap_clauses.specs.declared.trails.Step.{Step}
use Rattle.olap_clauses.specs.declared.trails.Trail.{Trail}
use Rattle.olap_clauses.specs.Standing.{is_decision}
use Rattle.olap_clauses.specs.Trails.{steps_of, values_of}

-- three branches a variable: not yet known, decided, and forced
abbrev pub tree : ℕ → ℕ
tree zero = 1
tree (suc r) = tree r + tree r + tree r

-- an unknown place counts more than a decision, and that more than a forced literal
abbrev pub rank : ℕ → List Step → ℕ
rank r [] = tree r
rank zero (s ∷ ss) = 0
rank (suc r) (s ∷ ss) = cond (is_decision s.reason) (tree r) 0 + rank r ss

-- how much is left to decide over the first trail's variables after the second trail
abbrev pub left : Trail → Trail → ℕ
left old t = rank (length (values_of old)) (steps_of t)
