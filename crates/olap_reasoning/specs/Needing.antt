-- What `needs` prints: the constraints that a target needs, or which categories they leave without members.
--     ListsNeeds      the lines of the constraints
--     ListsEmptied    a line for each category that they leave without members
--     HasNoRoom       there are more of them than a schema may have
use Rattle.std.specs.Prelude.{◌≡◌, ◌≢◌, ℕ, List, [], ◌++◌, codes, flat_map}
use Rattle.olap_ast.specs.Findings.{Finding.Unsatisfiable}
use Rattle.olap_ast.specs.Schema.{Schema}
use Rattle.olap_needs.specs.Needs.{AreEmptied, AreNeeded, HasRoom, needs_text, with_needs}
use Rattle.olap_order.specs.Outputs.{line}
use Rattle.olap_reasoning.specs.Listings.{finding_text}

-- the lines of the constraints that are needed: there is room for them, and each of the categories can have a member
pub record ListsNeeds (s : Schema) (c : ℕ) (sources bytes : List ℕ) : Type 0 where
  pub bottoms : List ℕ
  pub are_needed : AreNeeded s c sources bottoms
  pub room : HasRoom (with_needs s c sources bottoms)
  pub none_emptied : AreEmptied s c sources bottoms []
  pub text : bytes ≡ needs_text s.graph c sources bottoms

-- with them some of the categories can have no member, and these are listed
pub record ListsEmptied (s : Schema) (c : ℕ) (sources bytes : List ℕ) : Type 0 where
  pub bottoms : List ℕ
  pub emptied : List ℕ
  pub are_needed : AreNeeded s c sources bottoms
  pub room : HasRoom (with_needs s c sources bottoms)
  pub are_emptied : AreEmptied s c sources bottoms emptied
  pub some : emptied ≢ []
  pub text : bytes ≡ line (codes "no") ++ flat_map (λ b. finding_text s.graph (Unsatisfiable b)) emptied

-- there is no room for them
abbrev pub HasNoRoom : Schema → ℕ → List ℕ → Type 0
HasNoRoom s c sources = (bs : List ℕ) × AreNeeded s c sources bs × (HasRoom (with_needs s c sources bs) → ⊥)
