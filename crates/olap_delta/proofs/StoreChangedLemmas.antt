-- What facts make of stored views by the definition is what is made fact by fact.
use Rattle.std.proofs.Common.{◌≡◌, ◌+◌, ◌∷◌, ◌++◌, ◌∙◌, [], ℕ, List, Bool, true, false, cond, length, refl, ap, sym, Option, Some, None, Result, Ok, Err}
use Rattle.std.specs.{Prelude.{filter, find}, Result.result_map_both}
use Rattle.olap_base.specs.{Instance.Instance, Reaching.reaches, Summaries.Summary, Views.{Fact, View, members_of}}
use Rattle.olap_base.specs.declared.refusals.Fault.{Fault}
use Rattle.olap_records.specs.Tables.{all_read, and_others}
use Rattle.olap_view.specs.Stores.{summary_in}
use Rattle.olap_delta.specs.Changes.{Step, store_after, store_changed, view_after, view_with, views_after}
use Rattle.olap_delta.specs.FactByFact.{facts_changed, store_after_facts, view_after_at, view_after_fact, views_after_fact}
use Rattle.olap_delta.specs.declared.kinds.DeltaKind.{DeltaKind}

-- a fault without its view's place
abbrev without_place : Result (List (View ℕ ℕ)) (ℕ × DeltaKind) → Result (List (View ℕ ℕ)) DeltaKind
without_place (Ok views) = Ok views
without_place (Err p) = Err p.1

module _ (step : Step) (i : Instance) where
  -- the view after a step that may be refused
  gone_on : (v : View ℕ ℕ) (y : ℕ) (r : Result Summary DeltaKind)
      → result_map_both (λ s. view_with i v y s) (λ k. k) r ≡ elim r [ Ok s ↦ Ok (view_with i v y s) | Err k ↦ Err k ]
  gone_on v y (Ok s) = refl
  gone_on v y (Err k) = refl

  -- the view after the step at a member, if there is one
  abbrev at_member : View ℕ ℕ → Fact ℕ → Option ℕ → Result (View ℕ ℕ) DeltaKind
  at_member v f None = Ok v
  at_member v f (Some y) = result_map_both (λ s. view_with i v y s) (λ k. k) (step (summary_in v.rows y) f.value)

  -- the first member that is reached is the first of those that are
  first_reached : (v : View ℕ ℕ) (f : Fact ℕ) (ys : List ℕ) → at_member v f (find (λ y. reaches i f.at y) ys)
      ≡ view_after_at step i v f.value (filter (λ y. reaches i f.at y) ys)
  first_reached v f [] = refl
  first_reached v f (y ∷ ys) = go (reaches i f.at y) (first_reached v f ys)
    where
      go : (b : Bool) → at_member v f (find (λ z. reaches i f.at z) ys)
          ≡ view_after_at step i v f.value (filter (λ z. reaches i f.at z) ys)
          → at_member v f (cond b (Some y) (find (λ z. reaches i f.at z) ys))
          ≡ view_after_at step i v f.value
          (cond b (y ∷ filter (λ z. reaches i f.at z) ys) (filter (λ z. reaches i f.at z) ys))
      go true later = gone_on v y (step (summary_in v.rows y) f.value)
      go false later = later

  -- that is the definition's
  at_member_is : (v : View ℕ ℕ) (f : Fact ℕ) (o : Option ℕ) → elim o [
    | None ↦ Ok v
    | Some y ↦ result_map_both (λ s. view_with i v y s) (λ k. k) (step (summary_in v.rows y) f.value)
  ]
      ≡ at_member v f o
  at_member_is v f None = refl
  at_member_is v f (Some y) = refl

  -- one view
  view_is : (v : View ℕ ℕ) (f : Fact ℕ) → view_after step i v f ≡ view_after_fact step i v f
  view_is v f = at_member_is v f (find (λ y. reaches i f.at y) (members_of i v.target))
      ∙ first_reached v f (members_of i v.target)

  -- the view of a list and those after it
  and_rest : (n : ℕ) (o : Result (View ℕ ℕ) DeltaKind) (p : Result (List (View ℕ ℕ)) (ℕ × DeltaKind))
      → without_place (and_others n o p) ≡ elim o [
        | Ok w ↦ elim (without_place p) [ Ok ws ↦ Ok (w ∷ ws) | Err k ↦ Err k ]
        | Err k ↦ Err k
      ]
  and_rest n (Ok w) (Ok ws) = refl
  and_rest n (Ok w) (Err p) = refl
  and_rest n (Err k) p = refl

  -- several views
  views_are : (f : Fact ℕ) (before views : List (View ℕ ℕ))
      → without_place (all_read (λ (b : List (View ℕ ℕ)) (v : View ℕ ℕ). view_after step i v f) before views)
      ≡ views_after_fact step i views f
  views_are f before [] = refl
  views_are f before (v ∷ views) =
      and_rest (length before) (view_after step i v f)
      (all_read (λ (b : List (View ℕ ℕ)) (w : View ℕ ℕ). view_after step i w f) (before ++ v ∷ []) views)
      ∙ ap (λ o. elim o [
        | Ok w ↦ elim (without_place
            (all_read (λ (b : List (View ℕ ℕ)) (w : View ℕ ℕ). view_after step i w f) (before ++ v ∷ []) views)) [
              | Ok ws ↦ Ok (w ∷ ws)
              | Err k ↦ Err k
            ]
        | Err k ↦ Err k
      ]) (view_is v f)
      ∙ ap (λ p. elim (view_after_fact step i v f) [
        | Ok w ↦ elim p [ Ok ws ↦ Ok (w ∷ ws) | Err k ↦ Err k ]
        | Err k ↦ Err k
      ]) (views_are f (before ++ v ∷ []) views)

  -- after a fault nothing changes
  pub stays : (fault : Fault DeltaKind) (at : ℕ) (facts : List (Fact ℕ))
      → store_after_facts step i (Err fault) at facts ≡ Err fault
  stays fault at [] = refl
  stays fault at (f ∷ facts) = stays fault (at + 1) facts

  -- the views after facts
  after_is : (at : ℕ) (views : List (View ℕ ℕ)) (facts : List (Fact ℕ))
      → store_after step i at views facts ≡ store_after_facts step i (Ok views) at facts
  after_is at views [] = refl
  after_is at views (f ∷ facts) =
      go (views_after step i views f) (λ changed. after_is (at + 1) changed facts)
      ∙ ap (λ (r : Result (List (View ℕ ℕ)) DeltaKind). store_after_facts step i (elim r [
        | Ok changed ↦ Ok changed
        | Err k ↦ Err (record { at = at; kind = k })
      ]) (at + 1) facts) (views_are f [] views)
    where
      go : (r : Result (List (View ℕ ℕ)) (ℕ × DeltaKind)) → ((changed : List (View ℕ ℕ))
          → store_after step i (at + 1) changed facts ≡ store_after_facts step i (Ok changed) (at + 1) facts)
          → elim r [
            | Ok changed ↦ store_after step i (at + 1) changed facts
            | Err p ↦ Err (record { at = at; kind = p.1 })
          ]
          ≡ store_after_facts step i (elim (without_place r) [
            | Ok changed ↦ Ok changed
            | Err k ↦ Err (record { at = at; kind = k })
          ]) (at + 1) facts
      go (Ok changed) later = later changed
      go (Err p) later = sym (stays (record { at = at; kind = p.1 }) (at + 1) facts)

  -- the views after facts, or the first fault
  pub store_is : (views : List (View ℕ ℕ)) (facts : List (Fact ℕ))
      → store_changed step i views facts ≡ facts_changed step i views facts
  store_is views facts = after_is 2 views facts
