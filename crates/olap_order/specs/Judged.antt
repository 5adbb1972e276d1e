-- What a function that goes along an order answers, and when it gives up. `answers` says which status and bytes
-- answer a question, and `L` is what a library tells of itself.
--     Gives, GivesTold        the outcome has this status and these bytes
--     IsBlamed                the order explains what a library was last asked for
--     ReadCause               a refusal of the library has its cause
--     IsVerdict               a status that a command may answer with
--     RanOutOfMemory          the status of a run that ran out of memory
--     Replied                 so it is of the status and the bytes of a result, if it has some
--     IsLater                 the library after some calls
--     Judged                  what a command answers, along its order
--     Replies                 what a function answers that reads nothing
use Rattle.std.specs.Prelude.{◌≡◌, ◌⊎◌, ◌≤◌, ℕ, false, List, Option, None, Some, IfSome, MatchOption, ⊤, Result, Ok, Err, IsErrOf, IsTrue}
use Rattle.olap_outside.specs.Faults.{Rose}
use Rattle.olap_outside.specs.Files.{Files}
use Rattle.olap_outside.specs.declared.outside.Library.{Ghosts as Library}
use Rattle.olap_order.specs.Order.{Order, Done, Told, Read, ComesTo, IsStuck, ReadsNoFile}
use Rattle.olap_order.specs.declared.status.Status.{Status}
use Rattle.olap_order.specs.declared.status.Status.TheVariants as statuses
use Rattle.olap_order.specs.declared.replies.Reply.{Reply}
use Rattle.olap_order.specs.declared.replies.Stop.{Stop}
use Rattle.olap_order.specs.declared.replies.Stop.TheVariants as stops

-- the outcome has this status and these bytes
abbrev pub Gives : {Q : Type 0} → (Q → Status → List ℕ → Type 0) → Files → Order Q → Status → List ℕ → Type 0
Gives answers files (Done q) status bytes = answers q status bytes
Gives answers files (Told told text) status bytes = (status ≡ told) × (bytes ≡ text)
Gives answers files (Read name next) status bytes =
    MatchOption (files name) ⊥ (λ text. Gives answers files (next text) status bytes)

-- the same over a library: for its files, if it tells them; if not, for any files, provided that the order reads none
abbrev pub GivesTold : {Q : Type 0} → (Q → Status → List ℕ → Type 0) → Option Files → Order Q → Status → List ℕ
    → Type 0
GivesTold answers None order status bytes = ReadsNoFile order → (files : Files) → Gives answers files order status bytes
GivesTold answers (Some files) order status bytes = Gives answers files order status bytes

-- if the library tells its contents and what it was last asked for, that is a file that the order comes to, or the
-- order comes to a name without a content
abbrev pub IsBlamed : {Q : Type 0} → Option Files → Order Q → Option (Option (List ℕ)) → Type 0
IsBlamed contents order asked = IfSome contents (λ files. IfSome asked (λ name.
    MatchOption name (IsStuck files order) (λ file. ComesTo files order file ⊎ IsStuck files order)))

-- a call to the library was refused, and with it the run; a sure library refuses only a name without a content
pub record ReadCause {D Q : Type 0} (L : Library D) (old new : D) (order : Order Q) : Type 0 where
  pub risen : Rose (L.faults old) (L.faults new)
  pub unready : L.ready new ≡ false
  pub place : IsBlamed (L.contents old) order (L.asked new)
  pub stuck : IsTrue (L.sure old) → IfSome (L.contents old) (λ files. IsStuck files order)

-- the answers that a command may give: all but `Usage`, which is of words that are none
abbrev pub IsVerdict : Status → Type 0
IsVerdict statuses.Yes = ⊤
IsVerdict statuses.No = ⊤
IsVerdict statuses.Refused = ⊤
IsVerdict status = ⊥

-- memory ran out
abbrev pub RanOutOfMemory : Status → Type 0
RanOutOfMemory (statuses.Memory m) = ⊤
RanOutOfMemory status = ⊥

-- so it is of the status and the bytes of the reply, if there is one
abbrev pub Replied : Result Reply Stop → (Status → List ℕ → Type 0) → Type 0
Replied (Ok reply) P = P reply.status reply.bytes.items
Replied (Err (stops.Refused bytes)) P = P statuses.Refused bytes.items
Replied (Err stop) P = ⊤

-- the count of refused calls hasn't fallen, and the library is as sure as it was
pub record IsLater {D : Type 0} (L : Library D) (old new : D) : Type 0 where
  pub faults : L.faults old ≤ L.faults new
  pub sure : L.sure new ≡ L.sure old

-- what a command answers, along its order
pub record Judged {D Q : Type 0} (answers : Q → Status → List ℕ → Type 0) (L : Library D) (old new : D)
    (order : Order Q) (result : Result Reply Stop) : Type 0 where
  pub right : Replied result (GivesTold answers (L.contents old) order)
  pub verdict : Replied result (λ status bytes. IsVerdict status)
  pub read : IsErrOf result stops.Read → ReadCause L old new order
  pub later : IsLater L old new

-- what a function answers that reads nothing: so it is whatever the files are
pub record Replies {Q : Type 0} (answers : Q → Status → List ℕ → Type 0) (order : Order Q)
    (result : Result Reply Stop) : Type 0 where
  pub right : Replied result (λ status bytes. (files : Files) → Gives answers files order status bytes)
  pub verdict : Replied result (λ status bytes. IsVerdict status)
  pub unread : IsErrOf result stops.Read → ⊥
