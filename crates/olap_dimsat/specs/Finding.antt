-- What is found of the frozen dimensions of a root.
--     IsFoundAs    what was found is as it was wanted
--     HasNone      there is none
use Rattle.std.specs.Prelude.{ℕ}
use Rattle.olap_ast.specs.Formula.{Formula}
use Rattle.olap_ast.specs.Frozen.{AreCandidates, Candidates}
use Rattle.olap_ast.specs.Questions.{NoneFrozen}
use Rattle.olap_ast.specs.Schema.{Schema}
use Rattle.olap_dimsat.specs.OneFound.{IsOneFound}
use Rattle.olap_dimsat.specs.declared.finding.Wanted.{Wanted}
use Rattle.olap_dimsat.specs.declared.finding.Wanted.TheVariants as wanted
use Rattle.olap_frozen.specs.declared.founding.Found.{Found}
use Rattle.olap_frozen.specs.LeastFound.{IsLeastFound}

-- it is the least frozen dimension of the root for the question, or one of them
abbrev pub IsFoundAs : Wanted → Schema → Formula → ℕ → Found → Type 0
IsFoundAs wanted.Least s q r found = IsLeastFound s q r found
IsFoundAs wanted.Any s q r found = IsOneFound s q r found

-- there are candidates, and none of the frozen dimensions with this root makes the question true
abbrev pub HasNone : Schema → Formula → ℕ → Type 0
HasNone s q r = (k : Candidates) × AreCandidates s q k × NoneFrozen s q r k
