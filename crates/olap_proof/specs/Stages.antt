-- Stages of reading: what is open.
--     bottoms_from  the bottom categories from a number on
--     open_at       what is open
--     IsStage       a category is there, and a place is where its choices lead
--     if_done       the stage then, where the line does something
--     StepsTo       a line does this there, or nothing
--     IsReached     some lines of a text led there
use Rattle.std.specs.Prelude.{◌≡◌, ◌-◌, ◌+◌, ◌++◌, ◌==◌, ℕ, List, [], ◌∷◌, Bool, true, false, Option, Some, None, filter, length, map, not}
use Rattle.std.specs.List.{list_any, range_with_len}
use Rattle.olap_base.specs.Graph.{Edge, Graph, IsCategory, category_count}
use Rattle.olap_proof.specs.declared.asking.Asked.{Asked}
use Rattle.olap_proof.specs.declared.forms.Form.{Form}
use Rattle.olap_proof.specs.declared.stages.Stage.{Stage}
use Rattle.olap_proof.specs.declared.stages.Stage.TheVariants as stage
use Rattle.olap_proof.specs.Asking.{names_in, question_in, schema_in}
use Rattle.olap_proof.specs.Branches.{IsBranch, first_of, left_open}
use Rattle.olap_proof.specs.Certificates.{Open, Open.At, Open.Bottom, Open.Head, Runs, lines_text}

-- no edge leads to it
abbrev pub has_no_child : Graph → ℕ → Bool
has_no_child g c = not (list_any (λ (e : Edge). e.parent == c) g.edges)

-- the bottom categories from a number on, in declaration order
abbrev pub bottoms_from : Graph → ℕ → List ℕ
bottoms_from g n = filter (has_no_child g) (range_with_len n (category_count g - n))

-- all that is open
abbrev pub open_at : Asked → Stage → List Open
open_at a stage.Head = Head ∷ []
open_at a (stage.Bottom root) = Bottom root.0 ∷ map Bottom (bottoms_from a.graph.now (root.0 + 1))
open_at a (stage.Tree b) = At b.place ∷ left_open a.candidates.now (first_of b.place) b.choices.items
    (map Bottom (bottoms_from a.graph.now (b.root.0 + 1)))
open_at a stage.Done = []

-- a category is there, and a place is where its choices lead
abbrev pub IsStage : Asked → Stage → Type 0
IsStage a stage.Head = Unit {0}
IsStage a (stage.Bottom root) = IsCategory a.graph.now root.0
IsStage a (stage.Tree b) =
    IsBranch a.graph.now a.candidates.now b.place b.choices.items × (b.place.decided.root ≡ b.root.0)
IsStage a stage.Done = Unit {0}

-- the lines do this, one after another
abbrev pub RunsFor : Form → Asked → List (List ℕ) → List Open → List Open → Type 0
RunsFor f a lines os end = Runs f (schema_in a) (question_in a) (names_in a) lines os end

-- the stage then, where the line does something
abbrev pub if_done : Bool → Stage → Option Stage
if_done true to = Some to
if_done false to = None

-- the line leads from the one stage to the other, or does nothing
abbrev pub StepsTo : Form → Asked → Stage → List ℕ → Option Stage → Type 0
StepsTo f a from line None = (left : List Open) → RunsFor f a (line ∷ []) (open_at a from) left → ⊥
StepsTo f a from line (Some to) = IsStage a to × RunsFor f a (line ∷ []) (open_at a from) (open_at a to)

-- this many lines, each ended by an LF, led there; this is left of the text
pub record IsReached (f : Form) (a : Asked) (text rest : List ℕ) (count : ℕ) (os : List Open) : Type 0 where
  pub lines : List (List ℕ)
  pub parts : text ≡ lines_text lines ++ rest
  pub counted : length lines ≡ count
  pub run : RunsFor f a lines (Head ∷ []) os
