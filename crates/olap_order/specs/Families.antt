-- Families of commands. Each has questions of its own, and the program knows it by one call.
--     IsNoUsage       an order that isn't answered by the usage
--     CommandJudged   what a command's words are answered
--     FamilyJudged    what a family answers
--     asking          an order of a family as one of the program
use Rattle.std.specs.Prelude.{◌≡◌, ℕ, List, Option, None, Some, IsNone, MatchOption, ⊤, Result, option_map}
use Rattle.olap_outside.specs.declared.outside.Library.{Ghosts as Library}
use Rattle.olap_order.specs.Judged.{Judged}
use Rattle.olap_order.specs.Order.{Order, Done, Told, and_then}
use Rattle.olap_order.specs.declared.replies.Reply.{Reply}
use Rattle.olap_order.specs.declared.replies.Stop.{Stop}
use Rattle.olap_order.specs.declared.status.Status.{Status}
use Rattle.olap_order.specs.declared.status.Status.TheVariants.{Usage}

-- an order that isn't answered by the usage
abbrev pub IsNoUsage : {Q : Type 0} → Order Q → Type 0
IsNoUsage order = (bytes : List ℕ) → order ≡ Told Usage bytes → ⊥

-- the words are a command, whose order isn't the usage, and this is judged along it
pub record CommandJudged {D Q : Type 0} (answers : Q → Status → List ℕ → Type 0) (L : Library D) (old new : D)
    (order : Option (Order Q)) (result : Result Reply Stop) : Type 0 where
  pub command : Order Q
  pub is : order ≡ Some command
  pub no_usage : IsNoUsage command
  pub judged : Judged answers L old new command result

-- what a family answers: nothing exactly if no command of it has these words, and then the library isn't asked
pub record FamilyJudged {D Q : Type 0} (answers : Q → Status → List ℕ → Type 0) (L : Library D) (old new : D)
    (order : Option (Order Q)) (result : Option (Result Reply Stop)) : Type 0 where
  pub none : IsNone result → order ≡ None
  pub unasked : IsNone result → new ≡ old
  pub some : MatchOption result ⊤ (CommandJudged answers L old new order)

-- an order of a family's questions, if there is one, as an order of the program's
abbrev pub asking : {Q R : Type 0} → (Q → R) → Option (Order Q) → Option (Order R)
asking of order = option_map (λ o. and_then o (λ q. Done (of q))) order
