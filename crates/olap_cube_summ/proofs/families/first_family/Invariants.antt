-- With none of the families before this one the masks can become bad.
use Rattle.std.proofs.Common.{◌≡◌, ◌<◌, ◌++◌, ◌∷◌, ℕ, get_or}
use Rattle.olap_cube_summ.specs.{Masks.{CanBeBad, all_of}, declared.families.Family.Family}
use Rattle.olap_cube_summ.proofs.families.first_family.Given as goal

abbrev pub invariant-families : goal.invariant-families
invariant-families l = record {
  none : (j : ℕ) (f : Family) → j < l.k → get_or l.families j f ≡ f
      → CanBeBad l.sources (l.done ++ f.patterns ∷ l.rest) (all_of l.sources) → ⊥;
}
