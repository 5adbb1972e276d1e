-- What is asked of several dimensions, and what answers it. The view of a cube is a function of what was read, so it
-- leaves no question.
--     Question               a command's question, with all that it needs
--     ShowsCubeDifference    bytes tell the counterexample
--     IsAnswer               a status and bytes answer the question
use Rattle.std.specs.Prelude.{◌≡◌, ◌⊎◌, ◌++◌, ℕ, List, codes}
use Rattle.olap_ast.specs.Schema.{Schema}
use Rattle.olap_cube.specs.CubeSummarizable.{Chosen, IsCubeCounterexample, IsCubeSummarizable}
use Rattle.olap_cube_summ.specs.CubeCexText.{cube_counterexample_text}
use Rattle.olap_order.specs.Outputs.{line}
use Rattle.olap_order.specs.declared.status.Status.{Status}
use Rattle.olap_order.specs.declared.status.Status.TheVariants.{Yes, No}

-- a command's question, with all that it needs
pub data Question : Type 0 where
  -- is the target summarizable from the sources in the cube of these schemas?
  ByCube : (schemas : List Schema) (target : List ℕ) (sources : List (List ℕ)) → Question

-- the line `no`, and the lines of the counterexample
abbrev pub ShowsCubeDifference : List Schema → List ℕ → List (List ℕ) → List ℕ → Type 0
ShowsCubeDifference schemas c sources bytes = (choice : List Chosen) × IsCubeCounterexample schemas c sources choice
    × (bytes ≡ line (codes "no") ++ cube_counterexample_text schemas choice c sources)

-- this status and these bytes answer the question
abbrev pub IsAnswer : Question → Status → List ℕ → Type 0
IsAnswer (ByCube schemas c sources) status bytes =
    ((status ≡ Yes) × IsCubeSummarizable schemas c sources × (bytes ≡ line (codes "yes")))
    ⊎ ((status ≡ No) × ShowsCubeDifference schemas c sources bytes)
