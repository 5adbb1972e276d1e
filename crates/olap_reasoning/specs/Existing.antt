-- Each question has an answer.
--     IsAsked         what is asked is of a valid schema, and a formula is one of it
--     AnswersExist    such a question has a status and bytes that answer it
use Rattle.std.specs.Prelude.{ℕ, List}
use Rattle.olap_ast.specs.Valid.{IsQuestion, IsValidSchema}
use Rattle.olap_order.specs.declared.status.Status.{Status}
use Rattle.olap_reasoning.specs.Questions.{IsAnswer, Question, BySatisfiable, ByImplied, BySummarizable, ByProof, ByFrozen, ByAudit, ByNeeds, ByShapes}

-- what is asked is of a valid schema, and a formula is one of it
abbrev pub IsAsked : Question → Type 0
IsAsked (BySatisfiable s c) = IsValidSchema s
IsAsked (ByImplied s r q) = IsValidSchema s × IsQuestion s r q
IsAsked (BySummarizable s c sources) = IsValidSchema s
IsAsked (ByProof f s c sources) = IsValidSchema s
IsAsked (ByNeeds s c sources) = IsValidSchema s
IsAsked (ByFrozen s c) = IsValidSchema s
IsAsked (ByShapes s c) = IsValidSchema s
IsAsked (ByAudit s) = IsValidSchema s

-- such a question has a status and bytes that answer it
abbrev pub AnswersExist : Type 0
AnswersExist = (q : Question) → IsAsked q → (status : Status) × (bytes : List ℕ) × IsAnswer q status bytes
