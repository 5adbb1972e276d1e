-- The questions about an instance and its facts, and their answers: there are none so far, since the output of each
-- command is a function of what was read.
use Rattle.std.specs.Prelude.{ℕ, List}
use Rattle.olap_order.specs.declared.status.Status.{Status}

-- no command of this family has a question
abbrev pub Question : Type 0
Question = ⊥

-- no question, so no answer
abbrev pub IsAnswer : Question → Status → List ℕ → Type 0
IsAnswer q status bytes = ⊥
