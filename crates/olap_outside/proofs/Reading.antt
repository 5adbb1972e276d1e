-- A file that is read piece by piece.
use Rattle.std.proofs.Common.{◌≡◌, ℕ, List, ◌++◌, Option, None, Some}
use Rattle.olap_outside.specs.Files.{Files}

-- the content of the name is these bytes and then what is left
abbrev pub SoFar : Option Files → List ℕ → List ℕ → Option (List ℕ) → Type 0
SoFar None name bytes rest = Unit {0}
SoFar (Some files) name bytes None = ⊥
SoFar (Some files) name bytes (Some left) = files name ≡ Some (bytes ++ left)
