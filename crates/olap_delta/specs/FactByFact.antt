-- What facts make of stored views, fact by fact and view by view, as it is done. It is what the definition says.
--     view_after_fact      what a fact makes of a view
--     views_after_fact     what it makes of several, one after another
--     fact_after           what it makes of stored views, or the fault that came before
--     store_after_facts    what facts make of them, one after another
--     facts_changed        the same from the first record after the header
use Rattle.std.specs.Prelude.{◌+◌, ℕ, ℤ, List, [], ◌∷◌, filter, Result, Ok, Err}
use Rattle.olap_base.specs.Instance.{Instance}
use Rattle.olap_base.specs.Reaching.{reaches}
use Rattle.olap_base.specs.Views.{Fact, View, members_of}
use Rattle.olap_base.specs.declared.refusals.Fault.{Fault}
use Rattle.olap_view.specs.Stores.{summary_in}
use Rattle.olap_delta.specs.Changes.{Step, view_with}
use Rattle.olap_delta.specs.declared.kinds.DeltaKind.{DeltaKind}

-- the view after the step at the first of some members, if there is one
abbrev pub view_after_at : Step → Instance → View ℕ ℕ → ℤ → List ℕ → Result (View ℕ ℕ) DeltaKind
view_after_at step i v value [] = Ok v
view_after_at step i v value (y ∷ ys) = elim (step (summary_in v.rows y) value) [
  | Ok s ↦ Ok (view_with i v y s)
  | Err k ↦ Err k
]

-- the view after the step at the first member of its category that the fact's member reaches
abbrev pub view_after_fact : Step → Instance → View ℕ ℕ → Fact ℕ → Result (View ℕ ℕ) DeltaKind
view_after_fact step i v f =
    view_after_at step i v f.value (filter (λ y. reaches i f.at y) (members_of i v.target))

-- ---- several

-- each view after the fact, in order, or the first fault
abbrev pub views_after_fact : Step → Instance → List (View ℕ ℕ) → Fact ℕ → Result (List (View ℕ ℕ)) DeltaKind
views_after_fact step i [] f = Ok []
views_after_fact step i (v ∷ views) f = elim (view_after_fact step i v f) [
  | Ok w ↦ elim (views_after_fact step i views f) [ Ok ws ↦ Ok (w ∷ ws) | Err k ↦ Err k ]
  | Err k ↦ Err k
]

-- the views after the fact of that record, or the fault that comes of it or came before
abbrev pub fact_after : Step → Instance → ℕ → Fact ℕ → Result (List (View ℕ ℕ)) (Fault DeltaKind)
    → Result (List (View ℕ ℕ)) (Fault DeltaKind)
fact_after step i at f (Err fault) = Err fault
fact_after step i at f (Ok views) = elim (views_after_fact step i views f) [
  | Ok changed ↦ Ok changed
  | Err k ↦ Err (record { at = at; kind = k })
]

-- the views after the facts, in order, or the first fault; the first fact's record is this one
abbrev pub store_after_facts : Step → Instance → Result (List (View ℕ ℕ)) (Fault DeltaKind) → ℕ → List (Fact ℕ)
    → Result (List (View ℕ ℕ)) (Fault DeltaKind)
store_after_facts step i changed at [] = changed
store_after_facts step i changed at (f ∷ facts) =
    store_after_facts step i (fact_after step i at f changed) (at + 1) facts

-- the same of stored views, where a header stands before the first fact
abbrev pub facts_changed : Step → Instance → List (View ℕ ℕ) → List (Fact ℕ)
    → Result (List (View ℕ ℕ)) (Fault DeltaKind)
facts_changed step i views facts = store_after_facts step i (Ok views) 2 facts
