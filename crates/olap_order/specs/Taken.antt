-- How the code takes a step of an order, whatever comes after it.
--     ComesOut     the files are there that the step reads, and it comes to this
--     IsStuckTold  it comes to a name without a content
--     NoAnswer     of a step that ends: it leaves no question
--     FileStep     a step that reads
--     PlainStep    a step that reads nothing
use Rattle.std.specs.Prelude.{◌≡◌, List, ℕ, Option, None, Some, MatchOption, Result, Err, IfOk, IfErr, IfSome}
use Rattle.olap_outside.specs.Files.{Files}
use Rattle.olap_outside.specs.declared.outside.Library.{Ghosts as Library}
use Rattle.olap_order.specs.Order.{Order, Done, Told, Read, IsStuck, ReadsNoFile}
use Rattle.olap_order.specs.Judged.{IsLater, Judged, Replies}
use Rattle.olap_order.specs.declared.status.Status.{Status}
use Rattle.olap_order.specs.declared.replies.Stop.{Stop}

-- the files are there that the step reads, and it comes to this
abbrev pub ComesOut : {T : Type 0} → Files → Order T → T → Type 0
ComesOut files (Done x) y = x ≡ y
ComesOut files (Told status bytes) y = ⊥
ComesOut files (Read name next) y = MatchOption (files name) ⊥ (λ text. ComesOut files (next text) y)

-- the same of a library: of its files, where it tells them; where it tells none, if the step reads no file
abbrev pub ComesOutTold : {T : Type 0} → Option Files → Order T → T → Type 0
ComesOutTold None step x = ReadsNoFile step → step ≡ Done x
ComesOutTold (Some files) step x = ComesOut files step x

-- the order comes to a name without a content, where the library tells its contents
abbrev pub IsStuckTold : {Q : Type 0} → Option Files → Order Q → Type 0
IsStuckTold contents order = IfSome contents (λ files. IsStuck files order)

-- a step that ends leaves no question, so nothing answers one
abbrev pub NoAnswer : {T : Type 0} → T → Status → List ℕ → Type 0
NoAnswer x status bytes = ⊥

-- where the code has a value, the step comes to it; where it has none, the run ends as the step does
pub record FileStep {D T X : Type 0} (L : Library D) (old new : D) (step : Order T) (meaning : X → T)
    (result : Result X Stop) : Type 0 where
  pub comes_out : IfOk result (λ x. ComesOutTold (L.contents old) step (meaning x))
  pub ends : IfErr result (λ stop. Judged NoAnswer L old new step (Err stop))
  pub same : L.contents new ≡ L.contents old
  pub later : IsLater L old new

-- the same of a step for which no file is read
pub record PlainStep {T X : Type 0} (step : Order T) (meaning : X → T) (result : Result X Stop) : Type 0 where
  pub comes_out : IfOk result (λ x. step ≡ Done (meaning x))
  pub ends : IfErr result (λ stop. Replies NoAnswer step (Err stop))
