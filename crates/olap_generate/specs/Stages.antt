-- What has been made so far, on the way from the texts to the answer.
--     AreMadeMembers   a legal instance that the members' text stands for
--     AreMadeViews     the views that are stored of the facts' text
use Rattle.std.specs.Prelude.{◌≡◌, ℕ, List, Ok}
use Rattle.olap_ast.specs.Schema.{IsLegal, Schema}
use Rattle.olap_base.specs.Instance.{Instance}
use Rattle.olap_base.specs.Views.{Fact, View}
use Rattle.olap_instance.specs.InstanceMeaning.{instance_meant}
use Rattle.olap_instance.specs.Made.{IsMadeFor}
use Rattle.olap_schema_text.specs.Judging.{schema_read}
use Rattle.olap_generate.specs.Generated.{stored_views}
use Rattle.olap_generate.specs.Inputs.{IsMade}
use Rattle.olap_generate.specs.Location.{location_text}
use Rattle.olap_generate.specs.Members.{member_rows}

-- the schema and the members are those of their texts, and legal
pub record AreMadeMembers (seed size : ℕ) (schema : Schema) (members : Instance) : Type 0 where
  pub schema_text : schema_read location_text ≡ Ok schema
  pub member_text : instance_meant schema.graph (member_rows seed size) ≡ Ok members
  pub legal : IsLegal schema members
  pub made_for : IsMadeFor schema.graph members

-- so are the facts, and these are the views that are stored of them
pub record AreMadeViews (seed size : ℕ) (schema : Schema) (members : Instance) (views : List (View ℕ ℕ)) : Type 0 where
  pub facts : List (Fact ℕ)
  pub made : IsMade seed size schema members facts
  pub direct : views ≡ stored_views members facts
