-- Sets of variables.
--     variables_of   the variables of a set
use Rattle.std.specs.Prelude.{ℕ, List, take}
use Rattle.olap_parities.specs.declared.sets.Set.{Set}

-- the variables of a set
abbrev pub variables_of : Set → List ℕ
variables_of set = take set.count set.variables
