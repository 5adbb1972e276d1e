-- The dimensions of a cube one by one, and the least of the bad choices.
--     Dimension          a schema, what is asked of it, and a family of it
--     dimensions_of      the dimensions of a cube
--     AreFamiliesOf      of each dimension its families
--     IsLeastBefore      of the frozen dimensions that can end badly the least
--     AreLeast           they are so dimension by dimension
use Rattle.std.specs.Prelude.{◌≡◌, ◌<◌, ℕ, List, [], ◌∷◌, length, map, slice_index_or}
use Rattle.std.specs.Int.Bits.{bit_and}
use Rattle.olap_ast.specs.Frozen.{code}
use Rattle.olap_ast.specs.Schema.{Schema}
use Rattle.olap_base.specs.Ranks.{IsNotAfter}
use Rattle.olap_bits.specs.declared.sets.CatSet.{CatSet}
use Rattle.olap_cube.specs.CubeSummarizable.{Chosen, IsChosen}
use Rattle.olap_cube_summ.specs.Dimensions.{no_schema}
use Rattle.olap_cube_summ.specs.Found.{chosen_of}
use Rattle.olap_frozen.specs.declared.founding.Found.{Found}
use Rattle.olap_cube_summ.specs.Masks.{CanBeBad, IsBad, IsIn}
use Rattle.olap_cube_summ.specs.declared.families.Family.{Family}
use Rattle.olap_cube_summ.specs.Patterns.{AreFamilies, HasPattern, IsFamily, IsFoundFor}
use Rattle.olap_cube_summ.specs.Questions.{IsQuestionOf, no_question, target_in}
use Rattle.olap_cube_summ.specs.declared.questions.Question.{Question}

-- a schema, what is asked of it, and the patterns of one of its bottom categories
pub record Dimension : Type 0 where
  pub schema : Schema
  pub question : Question
  pub family : Family

-- the dimensions of a cube
abbrev pub dimensions_of : List Schema → List Question → List Family → List Dimension
dimensions_of (s ∷ ss) (q ∷ qs) (f ∷ fs) = record { schema = s; question = q; family = f } ∷ dimensions_of ss qs fs
dimensions_of _ _ _ = []

-- the question is one of the schema and has this many sources, and the family is one for it
pub record IsDimension (n : ℕ) (d : Dimension) : Type 0 where
  pub question : IsQuestionOf d.schema d.question
  pub count : length d.question.sources ≡ n
  pub family : IsFamily d.schema d.question d.family

-- of each dimension the families of its bottom categories
pub record AreFamiliesOf (schemas : List Schema) (questions : List Question) (families : List (List Family)) :
    Type 0 where
  pub count : length families ≡ length schemas
  pub each : (i : ℕ) → i < length schemas → AreFamilies (slice_index_or schemas i no_schema)
      (slice_index_or questions i no_question) (slice_index_or families i [])

-- the patterns of the families
abbrev pub sets_of : List Dimension → List (CatSet 4)
sets_of dimensions = map (λ d. d.family.patterns) dimensions

-- it is a frozen dimension of the family's bottom category by a pattern that leaves this of a mask, and with that the
-- rest can be bad; of those it has the least code
pub record IsLeastBefore (n : ℕ) (d : Dimension) (rest : List (CatSet 4)) (mask : ℕ) (found : Found) (left : ℕ) :
    Type 0 where
  pub root : found.frozen.root.0 ≡ d.family.bottom.0
  pub is_found : IsFoundFor d.schema (target_in d.question) found
  pub pattern : ℕ
  pub has : HasPattern d.schema d.question (chosen_of found) pattern
  pub left_is : left ≡ bit_and mask pattern
  pub bad : CanBeBad n rest left
  pub least : (h : Chosen) → IsChosen d.schema (target_in d.question) h → h.bottom ≡ d.family.bottom.0 → (p : ℕ)
      → IsIn d.family.patterns p → HasPattern d.schema d.question h p → CanBeBad n rest (bit_and mask p)
      → IsNotAfter (code (chosen_of found).frozen) (code h.frozen)

-- they are the least dimension by dimension, and at the end the mask is bad
abbrev pub AreLeast : ℕ → List Dimension → ℕ → List Found → Type 0
AreLeast n [] mask [] = IsBad n mask
AreLeast n (d ∷ ds) mask (x ∷ xs) = (left : ℕ) × IsLeastBefore n d (sets_of ds) mask x left × AreLeast n ds left xs
AreLeast _ _ _ _ = ⊥
