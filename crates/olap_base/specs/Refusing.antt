-- What a refusal says.
--     IsFor          its reason is allowed
--     IsForMemory    it is out of memory
--     IsCause        its reason is this one
--     IsRefusedBy    it tells the fault that a text has
use Rattle.std.specs.Prelude.{◌≡◌, ⊤, Err, Option, Result, Some}
use Rattle.olap_base.specs.declared.refusals.Refusal.{Refusal}
use Rattle.olap_base.specs.declared.refusals.Refusal.TheVariants as refusal

-- the reason is one that P allows; out of memory is always allowed
abbrev pub IsFor : {K : Type 0} → (K → Type 0) → Refusal K → Type 0
IsFor P (refusal.Kind k) = P k
IsFor P (refusal.Memory m) = ⊤

-- out of memory
abbrev pub IsForMemory : {K : Type 0} → Refusal K → Type 0
IsForMemory (refusal.Kind k) = ⊥
IsForMemory (refusal.Memory m) = ⊤

-- the reason is this one, or out of memory
abbrev pub IsCause : {K : Type 0} → Option K → Refusal K → Type 0
IsCause first = IsFor (λ k. first ≡ Some k)

-- the refusal tells the fault that a text has by its definition, or is out of memory
abbrev pub IsRefusedBy : {T K : Type 0} → Refusal K → Result T K → Type 0
IsRefusedBy e read = IsFor (λ k. read ≡ Err k) e
