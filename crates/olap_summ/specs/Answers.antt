-- The one question behind all: a formula that is true nowhere.
--     IsNowhere    a formula is true at no member of a category in any legal instance
use Rattle.std.specs.Prelude.{ℕ}
use Rattle.olap_base.specs.Instance.{Instance, IsMemberOf}
use Rattle.olap_ast.specs.Formula.{Formula, Holds}
use Rattle.olap_ast.specs.Schema.{IsLegal, Schema}

-- in no legal instance is the formula true at a member of the category
abbrev pub IsNowhere : Schema → Formula → ℕ → Type 0
IsNowhere s q r = (i : Instance) → IsLegal s i → (x : ℕ) → IsMemberOf i r x → Holds i x q → ⊥
