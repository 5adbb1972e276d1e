-- Each question has an answer.
--     IsAsked         what is asked is of a valid schema, or of a size that may be asked for
--     AnswersExist    such a question has a status and bytes that answer it
use Rattle.std.specs.Prelude.{ℕ, ◌≤◌, List}
use Rattle.olap_ast.specs.Valid.{IsValidSchema}
use Rattle.olap_base.specs.Limits.{most_generated}
use Rattle.olap_order.specs.declared.status.Status.{Status}
use Rattle.olap_plans.specs.Questions.{IsAnswer, Question, ByGenerated, ByPlan}

-- what is asked is of a valid schema, or of a size that may be asked for
abbrev pub IsAsked : Question → Type 0
IsAsked (ByPlan s i views c) = IsValidSchema s
IsAsked (ByGenerated seed size) = (1 ≤ size) × (size ≤ most_generated)

-- such a question has a status and bytes that answer it
abbrev pub AnswersExist : Type 0
AnswersExist = (q : Question) → IsAsked q → (status : Status) × (bytes : List ℕ) × IsAnswer q status bytes
