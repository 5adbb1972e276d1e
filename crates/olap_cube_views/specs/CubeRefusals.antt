-- What the refusals of this crate say.
--     IsToldAt       the refusal tells the fault of a record
--     IsFaultCause   it tells the first fault of the records after the header
use Rattle.std.specs.Prelude.{◌≡◌, ◌+◌, ℕ, Option, Some}
use Rattle.olap_base.specs.Refusing.{IsFor}
use Rattle.olap_base.specs.declared.refusals.Fault.{Fault}
use Rattle.olap_base.specs.declared.refusals.Refusal.{Refusal}
use Rattle.olap_facts.specs.declared.kinds.FactKind.{FactKind}

-- the refusal tells this fault of that record, or is out of memory
abbrev pub IsToldAt : ℕ → Option FactKind → Refusal (Fault FactKind) → Type 0
IsToldAt n fault = IsFor (λ f. (f.at ≡ n) × (fault ≡ Some f.kind))

-- the refusal tells the first fault of the records after the header, or is out of memory
abbrev pub IsFaultCause : Option (ℕ × FactKind) → Refusal (Fault FactKind) → Type 0
IsFaultCause fault = IsFor (λ f. (i : ℕ) × (f.at ≡ i + 2) × (fault ≡ Some (i, f.kind)))
