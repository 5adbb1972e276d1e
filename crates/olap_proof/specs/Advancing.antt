-- Lines, as bytes, on a branch of a tree.
--     StepsAt      they do this at a place
--     IsDone       a line does something at the place, as these bytes do
--     Advances     they do nothing; or some of the tree is open still, or none
use Rattle.std.specs.Prelude.{◌≡◌, ◌++◌, ℕ, List, ◌∷◌}
use Rattle.olap_proof.specs.declared.asking.Asked.{Asked}
use Rattle.olap_proof.specs.declared.branches.Choice.{Choice}
use Rattle.olap_proof.specs.declared.advancing.Effect.{Effect}
use Rattle.olap_proof.specs.declared.advancing.Effect.TheVariants.{Nothing, Still, Closed}
use Rattle.olap_proof.specs.declared.forms.Form.{Form}
use Rattle.olap_proof.specs.declared.lines.Line as program
use Rattle.olap_proof.specs.Asking.{names_in, question_in, schema_in}
use Rattle.olap_proof.specs.Branches.{IsBranch, first_of, left_open}
use Rattle.olap_proof.specs.Certificates.{Open, Open.At, Steps}
use Rattle.olap_proof.specs.Doing.{Does, leaves_open}
use Rattle.olap_proof.specs.Closing.{IsAbout}
use Rattle.olap_proof.specs.Places.{Place}
use Rattle.olap_proof.specs.Reading.{meaning}

-- they do this at a place
abbrev pub StepsAt : Form → Asked → Place → List ℕ → List Open → Type 0
StepsAt f a p bytes new =
    Steps f (schema_in a) (question_in a) (names_in a) bytes (At p) new

-- this line is about the schema, and does something at the place, as these bytes do
pub record IsDone (f : Form) (a : Asked) (p : Place) (bytes : List ℕ) (l : program.Line) : Type 0 where
  pub about : IsAbout (schema_in a) (meaning l)
  pub does : Does f (schema_in a) (question_in a) (names_in a) p (meaning l)
  pub step : StepsAt f a p bytes (leaves_open (names_in a) p (meaning l))

-- they do nothing; or some of the tree is open still, or none
abbrev pub Advances : Form → Asked → Place → List Choice → List ℕ → Place → List Choice → Effect → Type 0
Advances f a p xs bytes r ys Nothing = (new : List Open) → StepsAt f a p bytes new → ⊥
Advances f a p xs bytes r ys Still = IsBranch a.graph.now a.candidates.now r ys × (first_of r ≡ first_of p)
    × ((acc : List Open) → (new : List Open) × StepsAt f a p bytes new
    × (new ++ left_open a.candidates.now (first_of p) xs acc ≡ At r ∷ left_open a.candidates.now (first_of r) ys acc))
Advances f a p xs bytes r ys Closed = (acc : List Open)
    → (new : List Open) × StepsAt f a p bytes new × (new ++ left_open a.candidates.now (first_of p) xs acc ≡ acc)
