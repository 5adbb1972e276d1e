-- The laws of texts.
--     ReadIsInstance     what one stands for is an instance
--     InstanceIsMeant    what is read of a text is what it means
use Rattle.std.specs.Prelude.{◌≡◌, ℕ, List, Ok}
use Rattle.olap_base.specs.Graph.{Graph}
use Rattle.olap_base.specs.Instance.{Instance, IsInstance}
use Rattle.olap_records.specs.Tables.{named}
use Rattle.olap_instance.specs.InstanceMeaning.{instance_meant}
use Rattle.olap_instance.specs.InstanceText.{instance_read}
use Rattle.olap_instance.specs.Kinds.{name_of_kind}
use Rattle.olap_instance.specs.Made.{IsMadeFor}
use Rattle.olap_instance.specs.Members.{AllHasNoParents, HasShortNames, HasTexts}

-- the instance that records stand for is a dimension instance, made for the graph
pub record IsReadFor (g : Graph) (i : Instance) : Type 0 where
  pub instance : IsInstance i
  pub made : IsMadeFor g i
  pub texts : HasTexts i
  pub names : HasShortNames i
  pub top : AllHasNoParents i

-- whatever records stand for an instance, it is one
abbrev pub ReadIsInstance : Type 0
ReadIsInstance = (g : Graph) (records : List (List (List ℕ))) (i : Instance) → instance_read g records ≡ Ok i
    → IsReadFor g i

-- what is read of a text is what it means, with a fault's name in place of its kind
abbrev pub InstanceIsMeant : Type 0
InstanceIsMeant = (g : Graph) (records : List (List (List ℕ)))
    → instance_meant g records ≡ named name_of_kind (instance_read g records)
