-- Stored views that are changed fact by fact.
--     handed_out_after, after_text  what is handed out, and what comes of a text
use Rattle.std.proofs.Common.{rules, ◌≡◌, ◌+◌, ◌∷◌, ◌++◌, [], List, length, refl, sym, ap, subst, ◌∙◌, arith, length-append}
use Rattle.std.specs.{Prelude.{ℕ, All, IfErr, IfOk, Result, Ok, Err}, Result.result_map_both}
use Rattle.olap_base.specs.{Graph.Graph, Instance.Instance, Refusing.IsRefusedBy, Views.{Fact, View}}
use Rattle.olap_base.specs.declared.refusals.{Fault.Fault, Refusal.Refusal}
use Rattle.olap_view.specs.{Seen.views_of, Stores.{IsInFileOrder, IsSoundStore}, SummaryTables.categories_in}
use Rattle.olap_view.specs.declared.views.Store.{Store}
use Rattle.olap_delta.proofs.{ChangingLemmas.{fact_behind, facts_behind}, StoreChangedLemmas.store_is}
use Rattle.olap_delta.specs.{Changing.{Delta, step_of}, FactByFact.{fact_after, facts_changed, store_after_facts}}
use Rattle.olap_delta.specs.{Reading.views_changed, Taking.{AreTaken, HasTaken, IsStoreAfter, IsStoreAfterAll}}
use Rattle.olap_delta.specs.declared.{changes.Change.Change, kinds.ChangeKind.ChangeKind, kinds.DeltaKind.DeltaKind}
use Rattle.olap_facts.specs.declared.kinds.FactKind.{FactKind}
use Rattle.olap_delta.specs.declared.kinds.ChangeKind.TheVariants as change

-- one fact more was taken
pub taken_more : (by : Change) (i : Instance) (views : List (View ℕ ℕ)) (facts : List (Fact ℕ)) (f : Fact ℕ)
    (d e : Delta)
    → HasTaken by i views facts d → e.change ≡ d.change → e.instance ≡ d.instance → e.categories ≡ d.categories
    → e.taken ≡ d.taken + 1 → e.views ≡ fact_after (step_of d.change) d.instance (d.taken + 2) f d.views
    → HasTaken by i views (facts ++ f ∷ []) e
taken_more by i views facts f d e h s j c t v = grind (arith, length-append, fact_behind)

-- no fact was taken yet
pub taken_none : (by : Change) (i : Instance) (views : List (View ℕ ℕ)) (d : Delta) → d.change ≡ by → d.instance ≡ i
    → d.categories ≡ categories_in views → d.taken ≡ 0 → d.views ≡ Ok views → HasTaken by i views [] d
taken_none by i views d s j c t v = record { change = s; instance = j; categories = c; taken = t; views = v }

-- ---- between two times

-- none between a time and itself
pub are_taken_none : (d : Delta) → AreTaken [] d d
are_taken_none d = record { change = refl; instance = refl; categories = refl; taken = omega arith; views = refl }

-- one more since the first time
pub are_taken_more : (facts : List (Fact ℕ)) (f : Fact ℕ) (old d e : Delta) → AreTaken facts old d → e.change ≡ d.change
    → e.instance ≡ d.instance → e.categories ≡ d.categories → e.taken ≡ d.taken + 1
    → e.views ≡ fact_after (step_of d.change) d.instance (d.taken + 2) f d.views → AreTaken (facts ++ f ∷ []) old e
are_taken_more facts f old d e h s j c t v = grind (arith, length-append, fact_behind)

-- some facts more
pub taken_since : (by : Change) (i : Instance) (views : List (View ℕ ℕ)) (before facts : List (Fact ℕ)) (old d : Delta)
    → HasTaken by i views before old → AreTaken facts old d → HasTaken by i views (before ++ facts) d
taken_since by i views before facts old d h a = record {
  change = a.change ∙ h.change;
  instance = a.instance ∙ h.instance;
  categories = a.categories ∙ h.categories;
  taken = let n = h.taken in let m = a.taken in omega (arith, length-append {A = Fact ℕ});
  views = a.views
      ∙ ap (λ p. store_after_facts (step_of p) old.instance old.views (old.taken + 2) facts) h.change
      ∙ ap (λ j. store_after_facts (step_of by) j old.views (old.taken + 2) facts) h.instance
      ∙ ap (λ r. store_after_facts (step_of by) i r (old.taken + 2) facts) h.views
      ∙ ap (λ n. store_after_facts (step_of by) i (facts_changed (step_of by) i views before) n facts) at
      ∙ sym (facts_behind (step_of by) i (Ok views) 2 before facts);
}
  where
    at : old.taken + 2 ≡ 2 + length before
    at = let n = h.taken in omega arith

-- ---- what is handed out

-- what is handed out once these facts were taken
pub handed_out_after : (by : Change) (i : Instance) (views : List (View ℕ ℕ)) (facts : List (Fact ℕ)) (d : Delta)
    → HasTaken by i views facts d → (r : Result Store (Refusal (Fault DeltaKind)))
    → IfOk r (λ s. d.views ≡ Ok (views_of s))
    → IfOk r (λ s. (g : Graph) (before : List (View ℕ ℕ)) → d.categories ≡ categories_in before
    → IsSoundStore g d.instance before → IsSoundStore g d.instance (views_of s))
    → IfOk r (λ s. All (IsInFileOrder d.instance) (views_of s)) → IfErr r (λ e. IsRefusedBy e d.views)
    → IsStoreAfter by i views facts r
handed_out_after by i views facts d h (Ok s) ok sound order err = record {
  ok = store_is (step_of by) i views facts ∙ sym h.views ∙ ok;
  sound = λ g q. subst (λ (j : Instance). IsSoundStore g j (views_of s)) h.instance
      (sound g views h.categories (subst (λ (j : Instance). IsSoundStore g j views) (sym h.instance) q));
  order = subst (λ (j : Instance). All (IsInFileOrder j) (views_of s)) h.instance order;
  err = tt;
}
handed_out_after by i views facts d h (Err e) ok sound order err = grind (arith, store_is)

-- ---- all that were read

-- there is none, where the text or a fact is refused
pub refused_all : (by : Change) (i : Instance) (views : List (View ℕ ℕ)) (all : Result (List (Fact ℕ)) (Fault FactKind))
    (e : Refusal (Fault ChangeKind)) → IsRefusedBy e (views_changed (step_of by) i views all)
    → IsStoreAfterAll by i views all (Err e)
refused_all by i views all e h = record { ok = tt; sound = tt; order = tt; err = h }

-- the fault of a fact as one of a change
abbrev or_refused : Result (List (View ℕ ℕ)) (Fault DeltaKind) → Result (List (View ℕ ℕ)) (Fault ChangeKind)
or_refused r = result_map_both (λ vs. vs) (λ f. record { at = f.at; kind = change.Fact f.kind }) r

-- the store after the facts that were read
pub after_all : (by : Change) (i : Instance) (views : List (View ℕ ℕ)) (all : Result (List (Fact ℕ)) (Fault FactKind))
    (facts : List (Fact ℕ)) → all ≡ Ok facts → (s : Store) → IsStoreAfter by i views facts (Ok s)
    → IsStoreAfterAll by i views all (Ok s)
after_all by i views all facts e s a = search rules
