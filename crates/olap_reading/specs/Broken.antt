-- What a refused check says of the instance.
use Rattle.std.specs.Prelude.{◌≡◌, Some}
use Rattle.olap_check.specs.FirstViolation.{first_violation}
use Rattle.olap_ast.specs.Schema.{Schema}
use Rattle.olap_ast.specs.Violation as meaning
use Rattle.olap_base.specs.Instance.{Instance}
use Rattle.olap_base.specs.Refusing.{IsFor}
use Rattle.olap_base.specs.declared.refusals.Refusal.{Refusal}
use Rattle.olap_check.specs.declared.violations.Illegal.{Illegal}
use Rattle.olap_check.specs.declared.violations.Violation.{Violation}
use Rattle.olap_reading.specs.Telling.{IsTellable, told_text}
use Rattle.olap_reading.specs.Violations.{violation_text}

-- it tells the first violation of the instance, whose members are there, by the words of that
pub record IsFirst (s : Schema) (i : Instance) (v : Violation) : Type 0 where
  pub violation : meaning.Violation
  pub first : first_violation s i ≡ Some violation
  pub words : told_text s.graph i v ≡ violation_text s.graph i violation
  pub tellable : IsTellable s.graph i v

-- the same instance is handed back with its first violation, or memory ran out
abbrev pub IsBrokenBy : Schema → Instance → Refusal Illegal → Type 0
IsBrokenBy s i = IsFor (λ back. (back.instance ≡ i) × IsFirst s i back.violation)
