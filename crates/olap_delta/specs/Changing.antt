-- A summary table while it is changed.
--     step_of       what a change makes of a row
--     step_named    the same by the names of faults
--     IsStorable    a summary that a row may store
--     AreStorable   what stands in a table may be stored
--     Delta         what stored views are while they are changed
--     delta_of      what they are over a table
use Rattle.std.specs.Prelude.{ℕ, List, IfSome, Option, None, Some, Result, Ok, Err}
use Rattle.olap_base.specs.Instance.{Instance}
use Rattle.olap_base.specs.declared.refusals.Fault.{Fault}
use Rattle.olap_base.specs.Summaries.{Summary}
use Rattle.olap_base.specs.Views.{View}
use Rattle.olap_view.specs.StoreReading.{IsStoredAt}
use Rattle.olap_view.specs.SummaryTables.{Summarized, stands_at, views_at}
use Rattle.olap_view.specs.Tables.{IsAmong}
use Rattle.olap_delta.specs.Changes.{Step, StepOr, append, appended, retract, retracted}
use Rattle.olap_delta.specs.declared.changes.Change.{Change}
use Rattle.olap_delta.specs.declared.changes.Change.TheVariants as by
use Rattle.olap_delta.specs.declared.kinds.DeltaKind.{DeltaKind}

-- the step of a change
abbrev pub step_of : Change → Step
step_of by.Append = appended
step_of by.Retract = retracted

-- the same by the names of faults
abbrev pub step_named : Change → StepOr (List ℕ)
step_named by.Append = append
step_named by.Retract = retract

-- a summary that a row of any member may store
abbrev pub IsStorable : Summary → Type 0
IsStorable s = (y : ℕ) → IsStoredAt y s

-- so is each that stands in the table
abbrev pub AreStorable : Summarized → Type 0
AreStorable t = (y : ℕ) → IsAmong t.instance t.categories y → IfSome (stands_at t y) IsStorable

-- the change of the views of these categories, how many facts were taken, and the views after them, or the first fault
pub record Delta : Type 0 where
  pub change : Change
  pub instance : Instance
  pub categories : List ℕ
  pub taken : ℕ
  pub views : Result (List (View ℕ ℕ)) (Fault DeltaKind)

-- the views of a table, but for a fault
abbrev pub views_or : Option (Fault DeltaKind) → List (View ℕ ℕ) → Result (List (View ℕ ℕ)) (Fault DeltaKind)
views_or None views = Ok views
views_or (Some fault) views = Err fault

-- what they are over a table
abbrev pub delta_of : Change → Summarized → ℕ → Option (Fault DeltaKind) → Delta
delta_of change t taken refused = record {
  change = change;
  instance = t.instance;
  categories = t.categories;
  taken = taken;
  views = views_or refused (views_at t);
}
