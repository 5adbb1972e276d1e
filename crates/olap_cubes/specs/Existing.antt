-- Each question has an answer.
--     IsAsked         what is asked is of valid schemas
--     AnswersExist    such a question has a status and bytes that answer it
use Rattle.std.specs.Prelude.{ℕ, List, All}
use Rattle.olap_ast.specs.Valid.{IsValidSchema}
use Rattle.olap_order.specs.declared.status.Status.{Status}
use Rattle.olap_cubes.specs.Questions.{ByCube, IsAnswer, Question}

-- what is asked is of valid schemas
abbrev pub IsAsked : Question → Type 0
IsAsked (ByCube schemas c sources) = All IsValidSchema schemas

-- such a question has a status and bytes that answer it
abbrev pub AnswersExist : Type 0
AnswersExist = (q : Question) → IsAsked q → (status : Status) × (bytes : List ℕ) × IsAnswer q status bytes
