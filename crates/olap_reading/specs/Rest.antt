-- What is left of an opened file, where the library may not tell it.
--     IsOfRest        so it is of what is left, where that is told
--     IsWhyUnrolled   why the facts of a file came to no views
use Rattle.std.specs.Prelude.{◌≡◌, ℕ, List, Option, IfSome, ⊤}
use Rattle.olap_base.specs.Graph.{Graph}
use Rattle.olap_base.specs.Instance.{Instance}
use Rattle.olap_base.specs.Limits.{most_facts}
use Rattle.olap_base.specs.Refusing.{IsForMemory, IsRefusedBy}
use Rattle.olap_records.specs.Records.{records_of}
use Rattle.olap_facts.specs.FactText.{facts_read_within}
use Rattle.olap_reading.specs.declared.rolling.Unrolled.{Unrolled}
use Rattle.olap_reading.specs.declared.rolling.Unrolled.TheVariants as unrolled

-- P holds of some text; if what is left is told, of that text
pub record IsOfRest (rest : Option (List ℕ)) (P : List ℕ → Type 0) : Type 0 where
  pub text : List ℕ
  pub told : IfSome rest (λ whole. whole ≡ text)
  pub so : P text

-- a refusal of the facts tells the first fault of the file's text
abbrev pub IsWhyUnrolled : Graph → Instance → Option (List ℕ) → Unrolled → Type 0
IsWhyUnrolled g i rest unrolled.Failed = ⊤
IsWhyUnrolled g i rest (unrolled.Refused e) =
    IsOfRest rest (λ text. IsRefusedBy e (facts_read_within most_facts g i (records_of text)))

-- out of memory
abbrev pub IsOutOfMemory : Unrolled → Type 0
IsOutOfMemory unrolled.Failed = ⊥
IsOutOfMemory (unrolled.Refused e) = IsForMemory e
