-- Direct views, fact by fact.
use Rattle.std.proofs.Common.{arith, ◌≡◌, ◌+◌, ℕ, List, [], ◌∷◌, ◌++◌, map, true, false, cond, refl, sym, ap, subst, ◌∙◌, Option, Some, None, IfSome, w64}
use Rattle.std.proofs.lemmas.List.{append-nil, append_assoc, Elements.{All-contains, All-head, All-tail}}
use Rattle.std.specs.Prelude.{All, Contains, MatchResult, Result, Ok, Err}
use Rattle.olap_base.{proofs.ListLemmas.Contains-map, proofs.TotalLemmas.⊕_none, specs.Graph.Graph}
use Rattle.olap_base.specs.{Instance.{Instance, IsLawful}, Reaching.reaches, Summaries.{Summary, of_value, ◌⊕◌}}
use Rattle.olap_base.specs.Views.{Fact, View, direct_view, direct_views, members, members_of, total_of_facts, values_at}
use Rattle.olap_base.specs.declared.refusals.Fault.{Fault}
use Rattle.olap_view.{proofs.FileOrderLemmas.view_by, specs.StoreReading.IsStoredAt, specs.Stores.Fits}
use Rattle.olap_delta.proofs.ChangeLemmas.{AreSmall, Makes, view_alike, views_step}
use Rattle.olap_delta.proofs.PermutedLemmas.{fact_among, fact_behind, facts_permuted}
use Rattle.olap_delta.proofs.{RowLemmas.{IsSmall, appended_total, retracted_total}, StorableLemmas.rows_stored}
use Rattle.olap_delta.{proofs.StoreChangedLemmas.{stays, store_is}, specs.Changes.{Step, appended, retracted}}
use Rattle.olap_delta.specs.FactByFact.{store_after_facts, views_after_fact}
use Rattle.olap_delta.specs.{Laws.{AppendGivesDirectViews, RetractGivesDirectViews}, declared.kinds.DeltaKind.DeltaKind}
use mir.Val.{SFits}
use Rattle.olap_delta.specs.declared.kinds.DeltaKind.TheVariants as kind

-- a stored summary is small
stored_small : (y : ℕ) (o : Option Summary) → IfSome o (IsStoredAt y) → IfSome o IsSmall
stored_small y None q = tt
stored_small y (Some s) q = record { few = q.few; least = q.least; greatest = q.greatest }

-- what stands at the rows of views that may be stored is small
views_small : (i : Instance) (h : ℕ → Option Summary) (cs : List ℕ) → All Fits (map (view_by i h) cs)
    → (c : ℕ) → Contains cs c → AreSmall i c h
views_small i h cs a c k = λ y m. stored_small y (h y) (rows_stored h (members_of i c)
    (All-contains Fits (map (view_by i h) cs) (view_by i h c) a (Contains-map (view_by i h) cs c k)) y m)

-- what the facts after the first make of the views after it
then : (step : Step) (i : Instance) (views : List (View ℕ ℕ)) (at : ℕ) (f : Fact ℕ) (facts : List (Fact ℕ))
    (P : List (View ℕ ℕ) → Type 0)
    (k : DeltaKind)
    → MatchResult (views_after_fact step i views f)
    (λ views. MatchResult (store_after_facts step i (Ok views) (at + 1) facts) P (λ fault. fault.kind ≡ k)) (λ j. j ≡ k)
    → MatchResult (store_after_facts step i (Ok views) at (f ∷ facts)) P (λ fault. fault.kind ≡ k)
then step i views at f facts P k = grind (arith, stays)

-- what follows of a value follows of a result
weaker : {A B : Type 0} (r : Result A B) (P Q : A → Type 0) (R : B → Type 0) → ((a : A) → P a → Q a) → MatchResult r P R
    → MatchResult r Q R
weaker (Ok a) P Q R f h = f a h
weaker (Err b) P Q R f h = h

module _ (g : Graph) (i : Instance) (w : IsLawful g i) (cs : List ℕ) where
  -- appending new facts to the direct views of some gives those of both, or is `Full`
  append_all : (new facts : List (Fact ℕ)) (at : ℕ)
      → ((c : ℕ) → Contains cs c → AreSmall i c (total_of_facts (members i) facts))
      → All (λ f. SFits w64 f.value) new
      → MatchResult (store_after_facts appended i (Ok (direct_views (members i) facts cs)) at new)
      (λ views. views ≡ direct_views (members i) (facts ++ new) cs) (λ fault. fault.kind ≡ kind.Full)
  append_all [] facts at small fit = ap (λ l. direct_views (members i) l cs) (sym (append-nil facts))
  append_all (f ∷ new) facts at small fit =
      then appended i (direct_views (members i) facts cs) at f new
      (λ views. views ≡ direct_views (members i) (facts ++ f ∷ new) cs) kind.Full
      (weaker (views_after_fact appended i (direct_views (members i) facts cs) f)
      (λ vs. (vs ≡ map (view_by i after) cs) × ((c : ℕ) → Contains cs c → AreSmall i c after))
      (λ views. MatchResult (store_after_facts appended i (Ok views) (at + 1) new)
      (λ views. views ≡ direct_views (members i) (facts ++ f ∷ new) cs) (λ fault. fault.kind ≡ kind.Full))
      (λ k. k ≡ kind.Full)
      (λ vs p. subst (λ l. MatchResult (store_after_facts appended i (Ok vs) (at + 1) new)
      (λ views. views ≡ direct_views (members i) l cs) (λ fault. fault.kind ≡ kind.Full))
      (append_assoc facts (f ∷ []) new)
      (subst (λ ws. MatchResult (store_after_facts appended i (Ok ws) (at + 1) new)
      (λ views. views ≡ direct_views (members i) ((facts ++ f ∷ []) ++ new) cs) (λ fault. fault.kind ≡ kind.Full))
      (sym p.0)
      (append_all new (facts ++ f ∷ []) (at + 1) p.1 (All-tail (λ (f : Fact ℕ). SFits w64 f.value) f new fit))))
      (views_step appended kind.Full g i w before after f elsewhere there cs small))
    where
      before : ℕ → Option Summary
      before = total_of_facts (members i) facts

      after : ℕ → Option Summary
      after = total_of_facts (members i) (facts ++ f ∷ [])

      elsewhere : (y : ℕ) → reaches i f.at y ≡ false
          → total_of_facts (members i) facts y ≡ total_of_facts (members i) (facts ++ f ∷ []) y
      elsewhere y r = sym (fact_behind i y facts f
          ∙ ap (λ b. total_of_facts (members i) facts y ⊕ cond b (Some (of_value f.value)) None) r
          ∙ ⊕_none (total_of_facts (members i) facts y))

      there : (y : ℕ) → reaches i f.at y ≡ true → IfSome (total_of_facts (members i) facts y) IsSmall
          → Makes appended kind.Full (total_of_facts (members i) facts y) f.value
          (total_of_facts (members i) (facts ++ f ∷ []) y)
      there y r h = subst (λ o. Makes appended kind.Full (total_of_facts (members i) facts y) f.value o)
          (sym (fact_behind i y facts f
          ∙ ap (λ b. total_of_facts (members i) facts y ⊕ cond b (Some (of_value f.value)) None) r))
          (appended_total (values_at (members i) facts y) f.value
          (All-head (λ (f : Fact ℕ). SFits w64 f.value) f new fit) h)

  -- retracting facts from the direct views of them and others gives those of the others, or is `Extreme`
  retract_all : (withdrawn left : List (Fact ℕ)) (at : ℕ)
      → ((c : ℕ) → Contains cs c → AreSmall i c (total_of_facts (members i) (left ++ withdrawn)))
      → MatchResult (store_after_facts retracted i (Ok (direct_views (members i) (left ++ withdrawn) cs)) at withdrawn)
      (λ views. views ≡ direct_views (members i) left cs) (λ fault. fault.kind ≡ kind.Extreme)
  retract_all [] left at small = ap (λ l. direct_views (members i) l cs) (append-nil left)
  retract_all (f ∷ withdrawn) left at small =
      then retracted i (direct_views (members i) (left ++ f ∷ withdrawn) cs) at f withdrawn
      (λ views. views ≡ direct_views (members i) left cs) kind.Extreme
      (weaker (views_after_fact retracted i (direct_views (members i) (left ++ f ∷ withdrawn) cs) f)
      (λ vs. (vs ≡ direct_views (members i) (left ++ withdrawn) cs)
      × ((c : ℕ) → Contains cs c → AreSmall i c (total_of_facts (members i) (left ++ withdrawn))))
      (λ views. MatchResult (store_after_facts retracted i (Ok views) (at + 1) withdrawn)
      (λ views. views ≡ direct_views (members i) left cs) (λ fault. fault.kind ≡ kind.Extreme)) (λ k. k ≡ kind.Extreme)
      (λ vs p. subst (λ ws. MatchResult (store_after_facts retracted i (Ok ws) (at + 1) withdrawn)
      (λ views. views ≡ direct_views (members i) left cs) (λ fault. fault.kind ≡ kind.Extreme)) (sym p.0)
      (retract_all withdrawn left (at + 1) p.1))
      (views_step retracted kind.Extreme g i w (total_of_facts (members i) (left ++ f ∷ withdrawn))
      (total_of_facts (members i) (left ++ withdrawn)) f elsewhere there cs small))
    where
      elsewhere : (y : ℕ) → reaches i f.at y ≡ false
          → total_of_facts (members i) (left ++ f ∷ withdrawn) y ≡ total_of_facts (members i) (left ++ withdrawn) y
      elsewhere y r = fact_among i y left f withdrawn
          ∙ ap (λ b. cond b (Some (of_value f.value)) None ⊕ total_of_facts (members i) (left ++ withdrawn) y) r

      there : (y : ℕ) → reaches i f.at y ≡ true → IfSome (total_of_facts (members i) (left ++ f ∷ withdrawn) y) IsSmall
          → Makes retracted kind.Extreme (total_of_facts (members i) (left ++ f ∷ withdrawn) y) f.value
          (total_of_facts (members i) (left ++ withdrawn) y)
      there y r h =
          let e : total_of_facts (members i) (left ++ f ∷ withdrawn) y
          ≡ Some (of_value f.value) ⊕ total_of_facts (members i) (left ++ withdrawn) y =
          fact_among i y left f withdrawn
          ∙ ap (λ b. cond b (Some (of_value f.value)) None ⊕ total_of_facts (members i) (left ++ withdrawn) y) r in
          subst (λ o. Makes retracted kind.Extreme o f.value (total_of_facts (members i) (left ++ withdrawn) y)) (sym e)
          (retracted_total (values_at (members i) (left ++ withdrawn) y) f.value
          (subst (λ (o : Option Summary). IfSome o IsSmall) e h))

-- appending to direct views
pub append_gives : AppendGivesDirectViews
append_gives g i cs facts new w fit values =
    subst (λ (r : Result (List (View ℕ ℕ)) (Fault DeltaKind)).
    MatchResult r (λ views. views ≡ direct_views (members i) (facts ++ new) cs) (λ fault. fault.kind ≡ kind.Full))
    (sym (store_is appended i (direct_views (members i) facts cs) new))
    (append_all g i w cs new facts 2 (views_small i (total_of_facts (members i) facts) cs fit) values)

-- retracting from direct views
pub retract_gives : RetractGivesDirectViews
retract_gives g i cs facts left withdrawn w fit p =
    let same : direct_views (members i) facts cs ≡ direct_views (members i) (left ++ withdrawn) cs =
    reordered cs in
    subst (λ (r : Result (List (View ℕ ℕ)) (Fault DeltaKind)).
    MatchResult r (λ views. views ≡ direct_views (members i) left cs) (λ fault. fault.kind ≡ kind.Extreme))
    (sym (store_is retracted i (direct_views (members i) facts cs) withdrawn))
    (subst (λ views. MatchResult (store_after_facts retracted i (Ok views) 2 withdrawn)
    (λ views. views ≡ direct_views (members i) left cs) (λ fault. fault.kind ≡ kind.Extreme)) (sym same)
    (retract_all g i w cs withdrawn left 2 (views_small i (total_of_facts (members i) (left ++ withdrawn)) cs
    (subst (All Fits) same fit))))
  where
    reordered : (cs : List ℕ) → direct_views (members i) facts cs ≡ direct_views (members i) (left ++ withdrawn) cs
    reordered [] = refl
    reordered (c ∷ cs) = ap (λ v. v ∷ direct_views (members i) facts cs)
        (view_alike i (total_of_facts (members i) facts) (total_of_facts (members i) (left ++ withdrawn)) c
        (λ y k. facts_permuted i y facts (left ++ withdrawn) p))
        ∙ ap (λ vs. direct_view (members i) (left ++ withdrawn) c ∷ vs) (reordered cs)
