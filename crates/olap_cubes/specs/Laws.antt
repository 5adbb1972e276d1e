-- What the definitions leave no choice in.
use Rattle.std.specs.Prelude.{◌≡◌, ℕ, List}
use Rattle.olap_order.specs.declared.status.Status.{Status}
use Rattle.olap_cubes.specs.Questions.{IsAnswer, Question}

-- a question has one status and one list of bytes at most
abbrev pub AnswersAreOne : Type 0
AnswersAreOne = (q : Question) (s t : Status) (b c : List ℕ) → IsAnswer q s b → IsAnswer q t c → (s ≡ t) × (b ≡ c)
