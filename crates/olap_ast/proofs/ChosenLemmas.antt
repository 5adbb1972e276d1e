-- The edges that bits choose.
use Rattle.std.{proofs.Common.{List, ◌∷◌, Bool, true, false, subst, inl, inr}, specs.Prelude.Contains}
use Rattle.olap_base.proofs.ListLemmas.{contains_head, Contains-nil, Distinct}
use Rattle.olap_base.specs.{Deciding.{contains_cons, contains_cases}, Graph.Edge}
use Rattle.olap_ast.specs.Frozen.{chosen}

-- chosen edges are edges of the list
pub chosen_in : (es : List Edge) (bits : List Bool) (e : Edge) → Contains (chosen es bits) e → Contains es e
chosen_in (f ∷ es) (true ∷ bits) e c = elim (contains_cases e f (chosen es bits) c) [
  | inl q ↦ subst (λ x. Contains (f ∷ es) x) q (contains_head f es)
  | inr h ↦ contains_cons e es f (chosen_in es bits e h)
]
chosen_in (f ∷ es) (false ∷ bits) e c = contains_cons e es f (chosen_in es bits e c)
chosen_in es bits e c = absurd (Contains-nil e c)

-- of distinct edges the chosen ones are distinct
pub chosen_distinct : (es : List Edge) (bits : List Bool) → Distinct es → Distinct (chosen es bits)
chosen_distinct (f ∷ es) (true ∷ bits) d = (λ c. d.0 (chosen_in es bits f c), chosen_distinct es bits d.1)
chosen_distinct (f ∷ es) (false ∷ bits) d = chosen_distinct es bits d.1
chosen_distinct es bits d = tt
