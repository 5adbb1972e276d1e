-- Stores after facts came or were withdrawn.
--     append, retract       what a fact's value makes of a row's summary, or its fault
--     view_after            what a fact makes of a view
--     store_after           what facts make of stored views, one after another, or the first fault
--     appended, retracted   a step as it is done
use Rattle.std.specs.Prelude.{codes, ◌==◌, ◌||◌, ◌+◌, ◌-◌, ℕ, ℤ, ◌+ℤ◌, ◌-ℤ◌, int_lt, nat_le, not, List, [], ◌∷◌, filter_map, find, Option, None, Some, Result, Ok, Err, if◌then◌else◌}
use Rattle.std.specs.Ordering.{int_eq}
use Rattle.std.specs.Result.{result_map_both}
use Rattle.olap_base.specs.Instance.{Instance}
use Rattle.olap_base.specs.Limits.{most_count}
use Rattle.olap_base.specs.declared.refusals.Fault.{Fault}
use Rattle.olap_base.specs.Reaching.{reaches}
use Rattle.olap_base.specs.Summaries.{Summary, joined, of_value}
use Rattle.olap_base.specs.Views.{Fact, View, members_of, row_at}
use Rattle.olap_records.specs.Tables.{all_read}
use Rattle.olap_view.specs.StoredNumbers.{is_sum}
use Rattle.olap_view.specs.Stores.{summary_in}
use Rattle.olap_delta.specs.declared.kinds.DeltaKind.{DeltaKind}
use Rattle.olap_delta.specs.declared.kinds.DeltaKind.TheVariants as kind

-- ---- a row

-- what a value makes of the summary at a member, if there is one, or why it can't be taken
abbrev pub StepOr : Type 0 → Type 0
StepOr K = Option Summary → ℤ → Result Summary K

-- a value that comes: it is joined to those that are there
abbrev pub append : StepOr (List ℕ)
append None v = Ok (of_value v)
append (Some s) v =
    if s.count == most_count then Err (codes "Full")
    else if not (is_sum (s.sum +ℤ v)) then Err (codes "Bound")
    else Ok (joined s (of_value v))

-- without one value, which is neither the least nor the greatest
abbrev pub without : Summary → ℤ → Summary
without s v = record s { count = s.count - 1; sum = s.sum -ℤ v }

-- a value that is withdrawn: the least and the greatest of the others must be known, so they stay as they are
abbrev pub retract : StepOr (List ℕ)
retract None v = Err (codes "NoRow")
retract (Some s) v =
    if int_lt v s.least || int_lt s.greatest v then Err (codes "Outside")
    else if int_eq v s.least || int_eq v s.greatest then Err (codes "Extreme")
    else if nat_le s.count 2 then Err (codes "Short")
    else if not (is_sum (s.sum -ℤ v)) then Err (codes "Bound")
    else Ok (without s v)

-- ---- a view

-- the view with this summary at y; its rows stand by member
abbrev pub view_with : Instance → View ℕ ℕ → ℕ → Summary → View ℕ ℕ
view_with i v y s = record v {
  rows = filter_map (λ z. row_at z (if z == y then Some s else summary_in v.rows z)) (members_of i v.target);
}

-- the view after the step at the member of its category that the fact's member reaches, of which there is one at most
abbrev pub view_after : {K : Type 0} → StepOr K → Instance → View ℕ ℕ → Fact ℕ → Result (View ℕ ℕ) K
view_after step i v f = elim (find (λ y. reaches i f.at y) (members_of i v.target)) [
  | None ↦ Ok v
  | Some y ↦ result_map_both (λ s. view_with i v y s) (λ k. k) (step (summary_in v.rows y) f.value)
]

-- ---- a store

-- the views after the facts, in order, or the first fault, at its fact's record; the first fact's record is this one
abbrev pub store_after : {K : Type 0} → StepOr K → Instance → ℕ → List (View ℕ ℕ) → List (Fact ℕ)
    → Result (List (View ℕ ℕ)) (Fault K)
store_after step i at views [] = Ok views
store_after step i at views (f ∷ facts) = elim (all_read (λ before v. view_after step i v f) [] views) [
  | Ok changed ↦ store_after step i (at + 1) changed facts
  | Err p ↦ Err (record { at = at; kind = p.1 })
]

-- ---- as it is done

-- a step with the kind of a fault in place of its name
abbrev pub Step : Type 0
Step = StepOr DeltaKind

-- a value that came
abbrev pub appended : Step
appended None v = Ok (of_value v)
appended (Some s) v =
    if s.count == most_count then Err kind.Full
    else if not (is_sum (s.sum +ℤ v)) then Err kind.Bound
    else Ok (joined s (of_value v))

-- a value that was withdrawn
abbrev pub retracted : Step
retracted None v = Err kind.NoRow
retracted (Some s) v =
    if int_lt v s.least || int_lt s.greatest v then Err kind.Outside
    else if int_eq v s.least || int_eq v s.greatest then Err kind.Extreme
    else if nat_le s.count 2 then Err kind.Short
    else if not (is_sum (s.sum -ℤ v)) then Err kind.Bound
    else Ok (without s v)

-- each view after the fact, in order, or the first fault, with its view's place
abbrev pub views_after : Step → Instance → List (View ℕ ℕ) → Fact ℕ → Result (List (View ℕ ℕ)) (ℕ × DeltaKind)
views_after step i views f = all_read (λ before v. view_after step i v f) [] views

-- the same of stored views, where a header stands before the first fact
abbrev pub store_changed : Step → Instance → List (View ℕ ℕ) → List (Fact ℕ)
    → Result (List (View ℕ ℕ)) (Fault DeltaKind)
store_changed step i views facts = store_after step i 2 views facts
