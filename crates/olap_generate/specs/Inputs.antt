-- What the texts of the made input stand for.
--     IsMade           the texts have no fault and stand for these members and facts, and the instance is legal
use Rattle.std.specs.Prelude.{◌≡◌, ℕ, ◌≤◌, List, Ok}
use Rattle.olap_ast.specs.Schema.{Schema, IsLegal}
use Rattle.olap_base.specs.Instance.{Instance}
use Rattle.olap_base.specs.Limits.{most_facts, most_generated}
use Rattle.olap_base.specs.Views.{Fact}
use Rattle.olap_facts.specs.FactMeaning.{facts_meant}
use Rattle.olap_instance.specs.InstanceMeaning.{instance_meant}
use Rattle.olap_schema_text.specs.Judging.{schema_read}
use Rattle.olap_generate.specs.Location.{location_text}
use Rattle.olap_generate.specs.Members.{fact_rows, member_rows}

-- the texts have no fault and stand for these, and the instance is legal
pub record IsMade (seed size : ℕ) (schema : Schema) (members : Instance) (facts : List (Fact ℕ)) : Type 0 where
  pub schema_text : schema_read location_text ≡ Ok schema
  pub member_text : instance_meant schema.graph (member_rows seed size) ≡ Ok members
  pub legal : IsLegal schema members
  pub fact_text : facts_meant most_facts schema.graph members (fact_rows seed size) ≡ Ok facts

-- for every seed and every size within the limit the made texts have no fault, and the instance is legal
abbrev pub AnInputIsMade : Type 0
AnInputIsMade =
    (seed size : ℕ) → 1 ≤ size → size ≤ most_generated →
    (schema : Schema) × (members : Instance) × (facts : List (Fact ℕ)) × IsMade seed size schema members facts
