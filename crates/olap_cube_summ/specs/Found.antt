-- Frozen dimensions, as the program has them, that are the counterexample to a cube's summarizability.
--     chosen_of                   the definitions' choice
--     IsCubeCounterexampleFound   they are the counterexample
use Rattle.std.specs.Prelude.{◌≡◌, ℕ, List, [], ◌∷◌, map}
use Rattle.olap_ast.specs.Schema.{Schema}
use Rattle.olap_cube.specs.CubeSummarizable.{Chosen, IsCubeCounterexample}
use Rattle.olap_frozen.specs.declared.founding.Found.{Found}
use Rattle.olap_frozen.specs.LeastFound.{frozen_of}
use Rattle.olap_frozen.specs.Leaves.{IsSized, IsZeroAtAll}
use Rattle.olap_names.specs.Names.{candidates_of}

-- the definitions' choice
abbrev pub chosen_of : Found → Chosen
chosen_of found = record {
  bottom = found.frozen.root.0;
  candidates = candidates_of found.candidates;
  frozen = frozen_of found.frozen;
}

-- of each dimension an entry for each edge and each category, and indexes of its names; `All` has 0
abbrev pub AreSized : List Schema → List Found → Type 0
AreSized [] [] = Unit {0}
AreSized (s ∷ ss) (f ∷ fs) = IsSized s.graph f.candidates f.frozen.edges f.frozen.names × IsZeroAtAll f.frozen.names
    × AreSized ss fs
AreSized _ _ = ⊥

-- they are the counterexample
pub record IsCubeCounterexampleFound (schemas : List Schema) (c : List ℕ) (sources : List (List ℕ))
    (founds : List Found) : Type 0 where
  pub is_one : IsCubeCounterexample schemas c sources (map chosen_of founds)
  pub sized : AreSized schemas founds
