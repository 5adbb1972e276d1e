-- The set has the patterns of the first families.
use Rattle.std.proofs.Common.{◌≡◌, ◌<◌, ◌↔◌, ℕ, get_or}
use Rattle.olap_cube_summ.specs.{Masks.IsIn, declared.families.Family.Family}
use Rattle.olap_cube_summ.proofs.families.union.Given as goal

abbrev pub invariant-families : goal.invariant-families
invariant-families l = record {
  has : (p : ℕ) → IsIn l.all p
      ↔ ((f : Family) × (j : ℕ) × (j < l.k) × (get_or l.families j f ≡ f) × IsIn f.patterns p);
}
