-- Steps and changes by the names of their faults.
use Rattle.std.proofs.Common.{arith, ◌≡◌, ◌∙◌, ◌+◌, ◌∷◌, ◌++◌, ap, ℕ, ℤ, Bool, true, false, cond, List, [], length, Option, Some, None, Result, Ok, Err, refl}
use Rattle.std.specs.{Prelude.find, Result.result_map_both}
use Rattle.olap_base.specs.{Instance.Instance, Reaching.reaches, Summaries.Summary, Views.{Fact, View, members_of}}
use Rattle.olap_records.specs.Tables.{all_read, and_others, named}
use Rattle.olap_view.specs.Stores.{summary_in}
use Rattle.olap_delta.specs.Changes.{Step, StepOr, append, appended, retract, retracted, store_after, view_after, view_with}
use Rattle.olap_delta.specs.{Changing.{step_named, step_of}, Kinds.name_of_kind, declared.changes.Change.Change}
use Rattle.olap_delta.specs.declared.kinds.DeltaKind.{DeltaKind}
use Rattle.olap_delta.specs.declared.changes.Change.TheVariants as by
use Rattle.olap_delta.specs.declared.kinds.DeltaKind.TheVariants as kind

-- a result by the name of its fault
abbrev by_name : {T : Type 0} → Result T DeltaKind → Result T (List ℕ)
by_name (Ok x) = Ok x
by_name (Err k) = Err (name_of_kind k)

-- ---- steps

-- a check that may fail, and what comes after it
check : (b : Bool) (k : DeltaKind) (meant : Result Summary (List ℕ)) (is : Result Summary DeltaKind)
    → meant ≡ by_name is → cond b (Err (name_of_kind k)) meant ≡ by_name (cond b (Err k) is)
check true k meant is e = refl
check false k meant is e = e

-- a value that comes
append-named : (o : Option Summary) (v : ℤ) → append o v ≡ by_name (appended o v)
append-named None v = refl
append-named (Some s) v = grind (arith, check)

-- a value that is withdrawn
retract-named : (o : Option Summary) (v : ℤ) → retract o v ≡ by_name (retracted o v)
retract-named None v = refl
retract-named (Some s) v = grind (arith, check)

-- the step of a change
step-named : (change : Change) (o : Option Summary) (v : ℤ) → step_named change o v ≡ by_name (step_of change o v)
step-named by.Append = append-named
step-named by.Retract = retract-named

-- ---- views

module _ (step : Step) (meant : StepOr (List ℕ)) (is : (o : Option Summary) (v : ℤ) → meant o v ≡ by_name (step o v))
    (i : Instance) where
  -- the view with the summary that a step gives
  with-named : (v : View ℕ ℕ) (y : ℕ) (r : Result Summary DeltaKind)
      → result_map_both (λ s. view_with i v y s) (λ k. k) (by_name r)
      ≡ by_name (result_map_both (λ s. view_with i v y s) (λ k. k) r)
  with-named v y (Ok s) = refl
  with-named v y (Err k) = refl

  -- the view after the step at a member, if there is one
  at-named : (v : View ℕ ℕ) (f : Fact ℕ) (o : Option ℕ) → elim o [
    | None ↦ Ok v
    | Some y ↦ result_map_both (λ s. view_with i v y s) (λ k. k) (meant (summary_in v.rows y) f.value)
  ]
      ≡ by_name (elim o [
        | None ↦ Ok v
        | Some y ↦ result_map_both (λ s. view_with i v y s) (λ k. k) (step (summary_in v.rows y) f.value)
      ])
  at-named v f None = refl
  at-named v f (Some y) =
      ap (result_map_both (λ s. view_with i v y s) (λ k. k)) (is (summary_in v.rows y) f.value)
      ∙ with-named v y (step (summary_in v.rows y) f.value)

  -- one view
  view-named : (v : View ℕ ℕ) (f : Fact ℕ) → view_after meant i v f ≡ by_name (view_after step i v f)
  view-named v f = at-named v f (find (λ y. reaches i f.at y) (members_of i v.target))

  -- several views, or the first fault with its view's place
  abbrev placed : Result (List (View ℕ ℕ)) (ℕ × DeltaKind) → Result (List (View ℕ ℕ)) (ℕ × List ℕ)
  placed (Ok views) = Ok views
  placed (Err p) = Err (p.0, name_of_kind p.1)

  -- the view of a list and those after it
  and-others-named : (n : ℕ) (o : Result (View ℕ ℕ) DeltaKind) (p : Result (List (View ℕ ℕ)) (ℕ × DeltaKind))
      → and_others n (by_name o) (placed p) ≡ placed (and_others n o p)
  and-others-named n (Ok v) (Ok views) = refl
  and-others-named n (Ok v) (Err p) = refl
  and-others-named n (Err k) p = refl

  -- each view after the fact
  abbrev all_meant : Fact ℕ → List (View ℕ ℕ) → List (View ℕ ℕ) → Result (List (View ℕ ℕ)) (ℕ × List ℕ)
  all_meant f = all_read (λ (before : List (View ℕ ℕ)) (v : View ℕ ℕ). view_after meant i v f)

  abbrev all_after : Fact ℕ → List (View ℕ ℕ) → List (View ℕ ℕ) → Result (List (View ℕ ℕ)) (ℕ × DeltaKind)
  all_after f = all_read (λ (before : List (View ℕ ℕ)) (v : View ℕ ℕ). view_after step i v f)

  views-named : (f : Fact ℕ) (before views : List (View ℕ ℕ))
      → all_meant f before views ≡ placed (all_after f before views)
  views-named f before [] = refl
  views-named f before (v ∷ views) =
      ap (λ o. and_others (length before) o (all_meant f (before ++ v ∷ []) views)) (view-named v f)
      ∙ ap (and_others (length before) (by_name (view_after step i v f))) (views-named f (before ++ v ∷ []) views)
      ∙ and-others-named (length before) (view_after step i v f) (all_after f (before ++ v ∷ []) views)

  -- the views after facts
  store-after-named : (at : ℕ) (views : List (View ℕ ℕ)) (facts : List (Fact ℕ))
      → store_after meant i at views facts ≡ named name_of_kind (store_after step i at views facts)
  store-after-named at views [] = refl
  store-after-named at views (f ∷ facts) =
      ap (λ (r : Result (List (View ℕ ℕ)) (ℕ × List ℕ)). elim r [
        | Ok changed ↦ store_after meant i (at + 1) changed facts
        | Err p ↦ Err (record { at = at; kind = p.1 })
      ]) (views-named f [] views)
      ∙ go (all_after f [] views) (λ changed. store-after-named (at + 1) changed facts)
    where
      go : (r : Result (List (View ℕ ℕ)) (ℕ × DeltaKind)) → ((changed : List (View ℕ ℕ))
          → store_after meant i (at + 1) changed facts
          ≡ named name_of_kind (store_after step i (at + 1) changed facts))
          → elim (placed r) [
            | Ok changed ↦ store_after meant i (at + 1) changed facts
            | Err p ↦ Err (record { at = at; kind = p.1 })
          ]
          ≡ named name_of_kind (elim r [
            | Ok changed ↦ store_after step i (at + 1) changed facts
            | Err p ↦ Err (record { at = at; kind = p.1 })
          ])
      go (Ok changed) later = later changed
      go (Err p) later = refl

-- those after the facts of a change
pub change-named : (change : Change) (i : Instance) (at : ℕ) (views : List (View ℕ ℕ)) (facts : List (Fact ℕ))
    → store_after (step_named change) i at views facts
    ≡ named name_of_kind (store_after (step_of change) i at views facts)
change-named change = store-after-named (step_of change) (step_named change) (step-named change)
