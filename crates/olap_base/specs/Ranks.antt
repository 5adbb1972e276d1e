-- Things in the order of their ranks, which are lists of numbers.
--     IsNotAfter    a list of numbers comes before another, or is equal
--     AreExactly    exactly the things that have a property, in order
--     IsFirst       the first of them
use Rattle.std.specs.Prelude.{◌≡◌, ◌≢◌, ℕ, ◌<◌, ◌⊎◌, List, [], ◌∷◌, AllPairs, Contains}

-- the first list comes before the second, or is equal, in lexicographic order
abbrev pub IsNotAfter : List ℕ → List ℕ → Type 0
IsNotAfter [] ys = Unit {0}
IsNotAfter (x ∷ xs) [] = ⊥
IsNotAfter (x ∷ xs) (y ∷ ys) = (x < y) ⊎ ((x ≡ y) × IsNotAfter xs ys)

-- exactly the things with the property P, each once, in the order of their ranks
pub record AreExactly {A : Type 0} (rank : A → List ℕ) (P : A → Type 0) (xs : List A) : Type 0 where
  pub ordered : AllPairs (λ x y. IsNotAfter (rank x) (rank y) × (x ≢ y)) xs
  pub sound : (x : A) → Contains xs x → P x
  pub complete : (x : A) → P x → Contains xs x

-- P holds of it, and of nothing that has a smaller rank
pub record IsFirst {A : Type 0} (rank : A → List ℕ) (P : A → Type 0) (x : A) : Type 0 where
  pub is_one : P x
  pub least : (y : A) → P y → IsNotAfter (rank x) (rank y)
