-- The reasons for refusals.
use Rattle.std.specs.Prelude.{◌≡◌, ◌+◌, ℕ, Option, Some}
use Rattle.olap_base.specs.Refusing.{IsFor}
use Rattle.olap_base.specs.declared.refusals.Fault.{Fault}
use Rattle.olap_base.specs.declared.refusals.Refusal.{Refusal}
use Rattle.olap_instance.specs.declared.refusals.InstanceKind.{InstanceKind}

-- the refusal tells the fault of the n-th record after the header, or that memory ran out
abbrev pub IsRecordCause : Option InstanceKind → ℕ → Refusal (Fault InstanceKind) → Type 0
IsRecordCause fault n = IsFor (λ f. (f.at ≡ n + 2) × (fault ≡ Some f.kind))

-- the refusal tells the first fault of the records after the header, or that memory ran out
abbrev pub IsFaultCause : Option (ℕ × InstanceKind) → Refusal (Fault InstanceKind) → Type 0
IsFaultCause fault = IsFor (λ f. (i : ℕ) × (f.at ≡ i + 2) × (fault ≡ Some (i, f.kind)))
