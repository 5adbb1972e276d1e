-- What can't come over a library that is sure, and with an answer.
use Rattle.std.proofs.Common.{◌≡◌, ◌⊎◌, ◌∙◌, ℕ, List, Option, None, Some, inl, inr, subst, sym}
use Rattle.std.specs.Prelude.{IsSome, IsTrue}
use Rattle.olap_outside.specs.{Files.Files, declared.outside.Library.{Ghosts as Library}}
use Rattle.olap_run.specs.{Commands.order_of, Outcome.{IsAnswered, TellsAll}}
use Rattle.olap_order.specs.{Judged.{RanOutOfMemory, ReadCause}, Taken.IsStuckTold, declared.status.Status.Status}
use Rattle.olap_order.specs.declared.status.Status.TheVariants.{Yes, No, Usage, Refused, ReadFault, WriteFault, Memory}

-- what is none isn't some
none_is_some : (o : Option (List ℕ)) → o ≡ None → IsSome o → ⊥
none_is_some None e some = absurd (cc)
none_is_some (Some bytes) e some = absurd (cc)

-- no read is refused
pub held_is_read : {D : Type 0} {L : Library D} {old new : D} (words : List (List ℕ))
    → ReadCause L old new (order_of words) → IsTrue (L.sure old) → TellsAll words (L.contents old) → ⊥
held_is_read {L = L} {old = old} words cause sure all = go (L.contents old) (cause.stuck sure) all
  where
    go : (told : Option Files) → IsStuckTold told (order_of words) → TellsAll words told → ⊥
    go None stuck all = all
    go (Some files) stuck all = none_is_some (files stuck.0) stuck.2 (all stuck.0 stuck.1)

-- the first or the third
pub not_the_second : {A B C : Type 0} → A ⊎ B ⊎ C → (B → ⊥) → A ⊎ C
not_the_second (inl a) never = inl a
not_the_second (inr (inl b)) never = absurd (never b)
not_the_second (inr (inr c)) never = inr c

-- a status that is answered isn't that of a run out of memory
answered_has_memory : (status : Status) → IsAnswered status → RanOutOfMemory status → ⊥
answered_has_memory Yes answered memory = memory
answered_has_memory No answered memory = memory
answered_has_memory Usage answered memory = memory
answered_has_memory Refused answered memory = memory
answered_has_memory ReadFault answered memory = answered
answered_has_memory WriteFault answered memory = answered
answered_has_memory (Memory m) answered memory = answered

-- an answer that was written, or couldn't be, is neither a read fault nor out of memory
pub written_is_told : (status result : Status) → IsAnswered status → (result ≡ status) ⊎ (result ≡ WriteFault)
    → (result ≡ ReadFault) ⊎ RanOutOfMemory result → ⊥
written_is_told status result answered (inl e) (inl fault) = subst IsAnswered (sym e ∙ fault) answered
written_is_told status result answered (inl e) (inr memory) =
    answered_has_memory status answered (subst RanOutOfMemory e memory)
written_is_told status result answered (inr e) (inl fault) = let t = sym e ∙ fault in absurd (cc)
written_is_told status result answered (inr e) (inr memory) = subst RanOutOfMemory e memory
