-- What the definitions leave no choice in, that there is an answer, and what it shows.
--     IsAsked                   what is asked is of a valid schema
--     AnswersAreOne             such a question has one status and one list of bytes at most
--     AnswersExist              and it has them
--     AcceptedIsSummarizable    where its answer is yes, the target is summarizable from the sources
use Rattle.std.specs.Prelude.{◌≡◌, ℕ, List}
use Rattle.olap_ast.specs.Schema.{Schema}
use Rattle.olap_ast.specs.Summarizable.{IsSummarizable}
use Rattle.olap_ast.specs.Valid.{IsValidSchema}
use Rattle.olap_order.specs.declared.status.Status.{Status}
use Rattle.olap_order.specs.declared.status.Status.TheVariants.{Yes}
use Rattle.olap_proof.specs.declared.forms.Form.{Form}
use Rattle.olap_verdicts.specs.Questions.{ByCertificate, IsAnswer, Question}

-- what is asked is of a valid schema
abbrev pub IsAsked : Question → Type 0
IsAsked (ByCertificate f s c sources text) = IsValidSchema s

-- a question about a valid schema has one status and one list of bytes at most
abbrev pub AnswersAreOne : Type 0
AnswersAreOne = (q : Question) (s t : Status) (b c : List ℕ) → IsAsked q → IsAnswer q s b → IsAnswer q t c
    → (s ≡ t) × (b ≡ c)

-- and it has a status and bytes that answer it
abbrev pub AnswersExist : Type 0
AnswersExist = (q : Question) → IsAsked q → (status : Status) × (bytes : List ℕ) × IsAnswer q status bytes

-- if the answer is yes, the target is summarizable from the sources
abbrev pub AcceptedIsSummarizable : Type 0
AcceptedIsSummarizable = (f : Form) (s : Schema) (c : ℕ) (sources text bytes : List ℕ) → IsValidSchema s
    → IsAnswer (ByCertificate f s c sources text) Yes bytes → IsSummarizable s c sources
