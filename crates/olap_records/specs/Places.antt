-- What a splitter's places and actions are called in the definition of a text's records.
use Rattle.csv.specs.declared.parser.State.{State}
use Rattle.csv.specs.declared.parser.State.TheVariants as st
use Rattle.csv.specs.declared.parser.Action as csv
use Rattle.csv.specs.declared.parser.Action.TheVariants as act
use Rattle.olap_records.specs.declared.steps.Place.{Place}
use Rattle.olap_records.specs.declared.steps.Place.TheVariants as place
use Rattle.olap_records.specs.declared.steps.Action.{Action}
use Rattle.olap_records.specs.declared.steps.Action.TheVariants as action

-- the state of a place
abbrev pub state_of : Place → State
state_of place.Record = st.StartRecord
state_of place.Field = st.StartField
state_of place.Plain = st.InField
state_of place.Quoted = st.InQuoted
state_of place.Closed = st.AfterQuote
state_of place.Return = st.AfterCr

-- an action by its name there
abbrev pub action_of : Action → csv.Action
action_of action.Skip = act.Skip
action_of action.Copy = act.Copy
action_of action.EndField = act.EndField
action_of action.EndRecord = act.EndRecord
