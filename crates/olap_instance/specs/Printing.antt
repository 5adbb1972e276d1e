-- The text of an instance.
--     member_fields       a member's record
--     instance_rows       the header, and a record for each member but `all`
--     text_of_instance    their text
use Rattle.std.specs.Prelude.{◌-◌, ◌∷◌, ℕ, List, [], length, map, take}
use Rattle.std.specs.List.{join_with_byte}
use Rattle.olap_base.specs.Bytes.{semicolon}
use Rattle.olap_base.specs.Graph.{Graph}
use Rattle.olap_base.specs.Instance.{Instance, Member, member_at}
use Rattle.olap_graph.specs.Lookups.{name_of_category}
use Rattle.olap_records.specs.Texts.{text_of_rows}
use Rattle.olap_instance.specs.InstanceText.{header}

-- the ids of a member's parents
abbrev pub parent_ids : Instance → Member → List (List ℕ)
parent_ids i m = map (λ p. (member_at i p).id) m.parents

-- a member's record: its id, its category's name, its name, and the ids of its parents with semicolons between them
abbrev pub member_fields : Graph → Instance → Member → List (List ℕ)
member_fields g i m = m.id ∷ name_of_category g m.category ∷ m.name ∷ join_with_byte semicolon (parent_ids i m) ∷ []

-- all members but the last
abbrev pub others : Instance → Instance
others i = take (length i - 1) i

-- the header, and a record for each member but `all`
abbrev pub instance_rows : Graph → Instance → List (List (List ℕ))
instance_rows g i = header ∷ map (member_fields g i) (others i)

-- the CSV text of an instance
abbrev pub text_of_instance : Graph → Instance → List ℕ
text_of_instance g i = text_of_rows (instance_rows g i)
