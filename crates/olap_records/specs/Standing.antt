-- Where a reader stands in a text that has no byte order mark, byte by byte.
--     Standing      the records so far, and the fields and the bytes of the next
--     standing      after these bytes
--     at_end        all records, if the text ends here
--     unmarked      a text without its byte order mark
--     records_fed   the records of a text that was handed on without its mark
--     Splitting     what a caller sees of a splitter
use Rattle.std.specs.Prelude.{ℕ, Bool, true, false, List, [], ◌∷◌, ◌++◌, if◌then◌else◌}
use Rattle.csv.specs.Machine.{ends_at_end, step}
use Rattle.csv.specs.Reading.{default_config, strip_bom}
use Rattle.csv.specs.declared.parser.State.{State}
use Rattle.csv.specs.declared.parser.State.TheVariants as st
use Rattle.csv.specs.declared.parser.Action.{Action}
use Rattle.csv.specs.declared.parser.Action.TheVariants as act

-- the records so far, the fields of the next one and the bytes of its field, and the state
pub record Standing : Type 0 where
  pub done : List (List (List ℕ))
  pub fields : List (List ℕ)
  pub field : List ℕ
  pub state : State

-- before the first byte
abbrev pub at_start : Standing
at_start = record { done = []; fields = []; field = []; state = st.StartRecord }

-- after an action
abbrev pub after_action : Standing → State → Action → ℕ → Standing
after_action t s act.Skip c = record { done = t.done; fields = t.fields; field = t.field; state = s }
after_action t s act.Copy c = record { done = t.done; fields = t.fields; field = t.field ++ c ∷ []; state = s }
after_action t s act.EndField c =
    record { done = t.done; fields = t.fields ++ t.field ∷ []; field = []; state = s }
after_action t s act.EndRecord c =
    record { done = t.done ++ (t.fields ++ t.field ∷ []) ∷ []; fields = []; field = []; state = s }

-- after one byte
abbrev pub after_byte : Standing → ℕ → Standing
after_byte t c = after_action t (step default_config t.state c).0 (step default_config t.state c).1 c

-- after these bytes
abbrev pub standing : Standing → List ℕ → Standing
standing t [] = t
standing t (c ∷ xs) = standing (after_byte t c) xs

-- all records, if the text ends here
abbrev pub at_end : Standing → List (List (List ℕ))
at_end t = if ends_at_end t.state then t.done ++ (t.fields ++ t.field ∷ []) ∷ [] else t.done

-- these records, and then what there is
abbrev pub behind : List (List (List ℕ)) → Standing → Standing
behind done t = record { done = done ++ t.done; fields = t.fields; field = t.field; state = t.state }

-- the text after its byte order mark, if it begins with one
abbrev pub unmarked : List ℕ → List ℕ
unmarked = strip_bom

-- the records of a text that was handed on without its byte order mark
abbrev pub records_fed : List ℕ → List (List (List ℕ))
records_fed text = at_end (standing at_start text)

-- the record, if there is one
abbrev pub records_if : Bool → List (List ℕ) → List (List (List ℕ))
records_if true row = row ∷ []
records_if false row = []

-- what a caller sees of a splitter: the record that it found last, and where it stands after that
pub record Splitting : Type 0 where
  pub row : List (List ℕ)
  pub stands : Standing
