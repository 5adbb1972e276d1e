-- The definitions' findings behind the program's.
--     finding_of                          the definitions' finding
--     unsatisfiable, redundant, unused    the kinds of findings
--     AreFindingsBefore                   the list so far has exactly the findings before a kind and place
use Rattle.std.specs.Prelude.{◌≡◌, ◌≢◌, ◌<◌, ◌⊎◌, ℕ, List, AllPairs, Contains}
use Rattle.olap_base.specs.Ranks.{IsNotAfter}
use Rattle.olap_ast.specs.Findings as meaning
use Rattle.olap_ast.specs.Schema.{Schema}
use Rattle.olap_summ.specs.declared.auditing.Finding.{Finding}
use Rattle.olap_summ.specs.declared.auditing.Finding.TheVariants as found

-- the definitions' finding
abbrev pub finding_of : Finding → meaning.Finding
finding_of (found.Unsatisfiable c) = meaning.Finding.Unsatisfiable c.0
finding_of (found.Redundant n) = meaning.Finding.Redundant n
finding_of (found.Unused e) = meaning.Finding.Unused e.0

-- ---- the list so far

-- the kinds of findings, numbered in the order in which an audit tells them
abbrev pub unsatisfiable : ℕ
unsatisfiable = 1

abbrev pub redundant : ℕ
redundant = 2

abbrev pub unused : ℕ
unused = 3

-- the finding's kind
abbrev pub kind_of : meaning.Finding → ℕ
kind_of (meaning.Finding.Unsatisfiable c) = unsatisfiable
kind_of (meaning.Finding.Redundant n) = redundant
kind_of (meaning.Finding.Unused k) = unused

-- the category, the constraint's number or the edge
abbrev pub place_of : meaning.Finding → ℕ
place_of (meaning.Finding.Unsatisfiable c) = c
place_of (meaning.Finding.Redundant n) = n
place_of (meaning.Finding.Unused k) = k

-- the finding is of an earlier kind, or of this kind and at an earlier place
abbrev pub IsBefore : ℕ → ℕ → meaning.Finding → Type 0
IsBefore kind place f = (kind_of f < kind) ⊎ ((kind_of f ≡ kind) × (place_of f < place))

-- the first finding comes before the second
abbrev pub IsEarlier : meaning.Finding → meaning.Finding → Type 0
IsEarlier f g = IsNotAfter (meaning.finding_rank f) (meaning.finding_rank g) × (f ≢ g)

-- the list has exactly the findings before this kind and place, each once, in their order
pub record AreFindingsBefore (s : Schema) (kind place : ℕ) (findings : List meaning.Finding) : Type 0 where
  pub ordered : AllPairs IsEarlier findings
  pub sound : (f : meaning.Finding) → Contains findings f → meaning.IsFinding s f × IsBefore kind place f
  pub complete : (f : meaning.Finding) → meaning.IsFinding s f → IsBefore kind place f → Contains findings f
