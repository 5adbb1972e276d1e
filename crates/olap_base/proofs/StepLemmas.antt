-- Lemmas on walks of a relation.
use Rattle.std.proofs.Common.{ℕ}
use Rattle.olap_base.specs.Steps.{Steps, Steps.here, Steps.step, Climb, Climb.climb}

-- a walk of some edges is one of more
pub wider : {R S : ℕ → ℕ → Type 0} → ((x y : ℕ) → R x y → S x y) → {c d : ℕ} → Steps R c d → Steps S c d
wider f here = here
wider f (step {x = c} {y = z} r s) = step (f c z r) (wider f s)

-- a chain of one relation is one of a wider one
pub wider_climb : {R S : ℕ → ℕ → Type 0} → ((x y : ℕ) → R x y → S x y) → {c d : ℕ} → Climb R c d → Climb S c d
wider_climb f {c} (climb {z = z} r s) = climb (f c z r) (wider f s)
