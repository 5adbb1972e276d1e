-- A refusal out of memory is allowed whatever reasons are.
use Rattle.std.{proofs.Common.{Result, Ok, Err}, specs.Prelude.{IfErr, IsErrAnd}}
use Rattle.olap_base.specs.{Refusing.{IsFor, IsForMemory}, declared.refusals.Refusal.Refusal}
use Rattle.olap_base.specs.declared.refusals.Refusal.TheVariants as refusal

-- it is
pub allowed : {K : Type 0} (P : K → Type 0) (e : Refusal K) → IsForMemory e → IsFor P e
allowed P (refusal.Kind k) h = absurd h
allowed P (refusal.Memory m) h = tt

-- so is what a `?` passes on
pub for_memory : {T K : Type 0} (r : Result T (Refusal K)) (P : K → Type 0) → IsErrAnd r IsForMemory → IfErr r (IsFor P)
for_memory (Ok x) P h = tt
for_memory (Err e) P h = allowed P e h
