-- What is left of an opened file of a cube's facts, where the library may not tell it.
--     IsWhyUnrolled   why the facts of a file came to no view
use Rattle.std.specs.Prelude.{ℕ, List, Option, ⊤}
use Rattle.olap_base.specs.Graph.{Graph}
use Rattle.olap_base.specs.Instance.{Instance}
use Rattle.olap_base.specs.Limits.{most_facts}
use Rattle.olap_base.specs.Refusing.{IsForMemory, IsRefusedBy}
use Rattle.olap_records.specs.Records.{records_of}
use Rattle.olap_cube_views.specs.CubeFactText.{cube_facts_read_within}
use Rattle.olap_reading.specs.Rest.{IsOfRest}
use Rattle.olap_cubes.specs.declared.rolling.Unrolled.{Unrolled}
use Rattle.olap_cubes.specs.declared.rolling.Unrolled.TheVariants as unrolled

-- a refusal of the facts tells the first fault of the file's text
abbrev pub IsWhyUnrolled : List Graph → List Instance → Option (List ℕ) → Unrolled → Type 0
IsWhyUnrolled gs is rest unrolled.Failed = ⊤
IsWhyUnrolled gs is rest (unrolled.Refused e) =
    IsOfRest rest (λ text. IsRefusedBy e (cube_facts_read_within most_facts gs is (records_of text)))

-- out of memory
abbrev pub IsOutOfMemory : Unrolled → Type 0
IsOutOfMemory unrolled.Failed = ⊥
IsOutOfMemory (unrolled.Refused e) = IsForMemory e
