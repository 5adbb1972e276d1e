-- Partial shapes: what is known of a shape, and of the truth of formulas.
--     Knowledge          what is known of each edge, of each reaching, of each name and of each comparison
--     value_at           what is known of a formula's truth at the member of a category
--     Agrees             what is known to be so is so, and what is known not to be so isn't
--     Completes          a shape has what is known
--     ValuesAreTruths    so a value that is known is the truth in each such shape
use Rattle.std.specs.Prelude.{ℕ, ℤ, ◌∷◌, ◌&&◌, ◌||◌, [], Bool, IsTrue, List, not}
use Rattle.olap_base.specs.Instance.{Instance}
use Rattle.olap_ast.specs.Formula.{Formula, Terms, Formula.Truth, Formula.Falsity, Formula.Path, Formula.Reach, Formula.Via, Formula.Equals, Formula.Compare, Formula.Not, Formula.And, Formula.Or, Formula.Implies, Formula.Iff, Formula.Xor, Formula.One, Terms.End, Terms.More, Holds}
use Rattle.olap_ast.specs.ThreeValues.{iff, implies, value_of, value_of_both, value_of_one, xor}
use Rattle.olap_ast.specs.declared.three_values.Truth3.{Truth3}
use Rattle.olap_ast.specs.declared.three_values.Truth3.TheVariants.{No, Yes, Unknown}
use Rattle.olap_numerals.specs.Comparing.{Op}
use Rattle.olap_eval.specs.Shapes.{IsShape, HasEdgeThere, ReachesThere, HasNameThere, HasNumberThere}

-- what is known of each edge, of each reaching, of each name and of each comparison
pub record Knowledge : Type 0 where
  pub edge : ℕ → ℕ → Truth3
  pub reaches : ℕ → ℕ → Truth3
  pub name : ℕ → List ℕ → Truth3
  pub number : ℕ → Op → ℤ → Truth3

-- that edges lead from c through these categories
abbrev pub value_along : Knowledge → ℕ → List ℕ → Truth3
value_along k c [] = Yes
value_along k c (d ∷ ds) = value_of_both ◌&&◌ (k.edge c d) (value_along k d ds)

abbrev mutual
  -- what is known of the formula's truth at the member of r, by what is known of its atoms
  pub value_at : Knowledge → ℕ → Formula → Truth3
  value_at k r Truth = Yes
  value_at k r Falsity = No
  value_at k r (Path cs) = value_along k r cs
  value_at k r (Reach d) = k.reaches r d
  value_at k r (Via d e) = value_of_both ◌&&◌ (k.reaches r d) (k.reaches d e)
  value_at k r (Equals d text) = value_of_both ◌&&◌ (k.reaches r d) (k.name d text)
  value_at k r (Compare d op n) = value_of_both ◌&&◌ (k.reaches r d) (k.number d op n)
  value_at k r (Not f) = value_of not (value_at k r f)
  value_at k r (And f g) = value_of_both ◌&&◌ (value_at k r f) (value_at k r g)
  value_at k r (Or f g) = value_of_both ◌||◌ (value_at k r f) (value_at k r g)
  value_at k r (Implies f g) = value_of_both implies (value_at k r f) (value_at k r g)
  value_at k r (Iff f g) = value_of_both iff (value_at k r f) (value_at k r g)
  value_at k r (Xor f g) = value_of_both xor (value_at k r f) (value_at k r g)
  value_at k r (One ts) = value_of_one (values_of k r ts)

  -- and of the parts of a list
  pub values_of : Knowledge → ℕ → Terms → List Truth3
  values_of k r End = []
  values_of k r (More f ts) = value_at k r f ∷ values_of k r ts

-- what is known to be so is so, and what is known not to be so isn't
abbrev pub Agrees : Truth3 → Type 0 → Type 0
Agrees No P = P → ⊥
Agrees Yes P = P
Agrees Unknown P = Unit {0}

-- the shape has what is known
pub record Completes (k : Knowledge) (i : Instance) (present : ℕ → Bool) (place : ℕ → ℕ) : Type 0 where
  pub edges : (c d : ℕ) → Agrees (k.edge c d) (HasEdgeThere i present place c d)
  pub reaching : (c d : ℕ) → Agrees (k.reaches c d) (ReachesThere i present place c d)
  pub names : (c : ℕ) (text : List ℕ) → Agrees (k.name c text) (HasNameThere i present place c text)
  pub numbers : (c : ℕ) (op : Op) (n : ℤ) → Agrees (k.number c op n) (HasNumberThere i present place c op n)

-- in each shape that has what is known, a value that is known is the truth
abbrev pub ValuesAreTruths : Type 0
ValuesAreTruths = (k : Knowledge) (i : Instance) (present : ℕ → Bool) (place : ℕ → ℕ) → IsShape i present place
    → Completes k i present place → (r : ℕ) → IsTrue (present r) → (f : Formula)
    → Agrees (value_at k r f) (Holds i (place r) f)
