-- Shapes: some members, at most one of each category, with all that they reach.
--     IsShape         the present categories have a member each, and what these reach is among them
--     HasEdgeThere    both categories are present, and the first one's member is below the second's
--     ReachesThere    both are present, and the first one's member reaches the second's
--     HasNameThere    the category is present, and its member has the name
--     HasNumberThere  the category is present, and its member's number compares so
use Rattle.std.specs.Prelude.{◌≡◌, ℕ, ℤ, Bool, IsTrue, List}
use Rattle.olap_numerals.specs.Comparing.{Op}
use Rattle.olap_ast.specs.Formula.{IsNumbered}
use Rattle.olap_base.specs.Instance.{Instance, IsMemberOf, IsBelow, Reaches, category_of, name_of}

-- each present category has the member at its place, and a member that is reached is that of its category
pub record IsShape (i : Instance) (present : ℕ → Bool) (place : ℕ → ℕ) : Type 0 where
  pub members : (c : ℕ) → IsTrue (present c) → IsMemberOf i c (place c)
  pub closed : (c y : ℕ) → IsTrue (present c) → Reaches i (place c) y →
      IsTrue (present (category_of i y)) × (place (category_of i y) ≡ y)

-- both categories are present, and the first one's member is below the second's
abbrev pub HasEdgeThere : Instance → (ℕ → Bool) → (ℕ → ℕ) → ℕ → ℕ → Type 0
HasEdgeThere i present place c d = IsTrue (present c) × IsTrue (present d) × IsBelow i (place c) (place d)

-- both categories are present, and the first one's member reaches the second's
abbrev pub ReachesThere : Instance → (ℕ → Bool) → (ℕ → ℕ) → ℕ → ℕ → Type 0
ReachesThere i present place c d = IsTrue (present c) × IsTrue (present d) × Reaches i (place c) (place d)

-- the category is present, and its member has the name
abbrev pub HasNameThere : Instance → (ℕ → Bool) → (ℕ → ℕ) → ℕ → List ℕ → Type 0
HasNameThere i present place c text = IsTrue (present c) × (name_of i (place c) ≡ text)

-- the category is present, and its member's number compares so
abbrev pub HasNumberThere : Instance → (ℕ → Bool) → (ℕ → ℕ) → ℕ → Op → ℤ → Type 0
HasNumberThere i present place c op n = IsTrue (present c) × IsNumbered (name_of i (place c)) op n
