-- Facts that were read and taken, and the store after them.
--     AreTaken          these facts were taken, one after another
--     HasTaken          so were these since the stored views were read
--     AreIn, AreAllIn   these are the facts that were taken, listed or gone into the views
--     IsStoreAfter      the store after facts, or the first that is refused
--     IsStoreAfterAll   the store after all that were read, or why there is none
--     TextChange        what a changer by a text is
--     HasTakenText      it has taken some bytes of the text
use Rattle.std.specs.Prelude.{◌≡◌, ◌+◌, ◌<◌, ◌≤◌, ℕ, All, IfErr, IfOk, List, length, map, Result, Ok}
use Rattle.olap_base.specs.Graph.{Graph}
use Rattle.olap_base.specs.Instance.{Instance}
use Rattle.olap_base.specs.Limits.{most_count}
use Rattle.olap_base.specs.Refusing.{IsRefusedBy}
use Rattle.olap_base.specs.declared.refusals.Fault.{Fault}
use Rattle.olap_base.specs.declared.refusals.Refusal.{Refusal}
use Rattle.olap_base.specs.Views.{Fact, View}
use Rattle.olap_facts.specs.Feeding.{Fed, Feeding}
use Rattle.olap_facts.specs.Seen.{fact_of}
use Rattle.olap_facts.specs.declared.kinds.FactKind.{FactKind}
use Rattle.olap_view.specs.Seen.{views_of}
use Rattle.olap_view.specs.Stores.{Fits, IsInFileOrder, IsSoundStore, IsStore}
use Rattle.olap_view.specs.SummaryTables.{categories_in}
use Rattle.olap_view.specs.declared.views.Store.{Store}
use Rattle.olap_delta.specs.Changes.{store_changed}
use Rattle.olap_delta.specs.Changing.{Delta, step_of}
use Rattle.olap_delta.specs.FactByFact.{facts_changed, store_after_facts}
use Rattle.olap_delta.specs.Reading.{views_changed}
use Rattle.olap_delta.specs.declared.changes.Change.{Change}
use Rattle.olap_delta.specs.declared.kinds.ChangeKind.{ChangeKind}
use Rattle.olap_delta.specs.declared.kinds.DeltaKind.{DeltaKind}
use Rattle.olap_delta.specs.declared.taking.Base.{Base}
use Rattle.olap_delta.specs.declared.taking.Taken.{Taken}
use Rattle.olap_delta.specs.declared.taking.Taken.TheVariants as taken

-- these facts were taken, one after another
pub record AreTaken (facts : List (Fact ℕ)) (old new : Delta) : Type 0 where
  pub change : new.change ≡ old.change
  pub instance : new.instance ≡ old.instance
  pub categories : new.categories ≡ old.categories
  pub taken : new.taken ≡ old.taken + length facts
  pub views : new.views ≡ store_after_facts (step_of old.change) old.instance old.views (old.taken + 2) facts

-- these facts were taken, by this step, at these views
pub record HasTaken (by : Change) (i : Instance) (stored : List (View ℕ ℕ)) (facts : List (Fact ℕ))
    (d : Delta) : Type 0 where
  pub change : d.change ≡ by
  pub instance : d.instance ≡ i
  pub categories : d.categories ≡ categories_in stored
  pub taken : d.taken ≡ length facts
  pub views : d.views ≡ facts_changed (step_of by) i stored facts

-- how many facts were taken
abbrev pub taken_by : Taken → ℕ
taken_by (taken.Listed facts) = length facts.items
taken_by (taken.Gone d) = d.taken

-- they were taken on this instance
abbrev pub IsTakenAt : Instance → Taken → Type 0
IsTakenAt i (taken.Listed facts) = All (λ f. f.member.0 < length i) facts.items
IsTakenAt i (taken.Gone d) = d.instance ≡ i

-- these are the facts that were taken: they are listed, or have gone into the views
abbrev pub AreIn : Change → Instance → List (View ℕ ℕ) → List (Fact ℕ) → Taken → Type 0
AreIn by i views facts (taken.Listed fs) = facts ≡ map fact_of fs.items
AreIn by i views facts (taken.Gone d) = HasTaken by i views facts d

-- facts were read, and these are all of them
pub record AreAllIn (by : Change) (i : Instance) (views : List (View ℕ ℕ))
    (answer : Result (List (Fact ℕ)) (Fault FactKind))
    (t : Taken) : Type 0 where
  pub facts : List (Fact ℕ)
  pub read : answer ≡ Ok facts
  pub are : AreIn by i views facts t

-- the store after the change by these facts, sound where it was, or the first of them that is refused
pub record IsStoreAfter (by : Change) (i : Instance) (views : List (View ℕ ℕ)) (facts : List (Fact ℕ))
    (answer : Result Store (Refusal (Fault DeltaKind))) : Type 0 where
  pub ok : IfOk answer (λ s. store_changed (step_of by) i views facts ≡ Ok (views_of s))
  pub sound : IfOk answer (λ s. (g : Graph) → IsSoundStore g i views → IsSoundStore g i (views_of s))
  pub order : IfOk answer (λ s. All (IsInFileOrder i) (views_of s))
  pub err : IfErr answer (λ e. IsRefusedBy e (store_changed (step_of by) i views facts))

-- the store after the change by all facts that were read, sound where it was; or why there is none
pub record IsStoreAfterAll (by : Change) (i : Instance) (views : List (View ℕ ℕ))
    (all : Result (List (Fact ℕ)) (Fault FactKind))
    (answer : Result Store (Refusal (Fault ChangeKind))) : Type 0 where
  pub ok : IfOk answer (λ s. views_changed (step_of by) i views all ≡ Ok (views_of s))
  pub sound : IfOk answer (λ s. (g : Graph) → IsSoundStore g i views → IsSoundStore g i (views_of s))
  pub order : IfOk answer (λ s. All (IsInFileOrder i) (views_of s))
  pub err : IfErr answer (λ e. IsRefusedBy e (views_changed (step_of by) i views all))

-- ---- a text that comes in pieces

-- the change of these stored views, a reader of the text's facts, and those that were taken
pub record TextChange : Type 0 where
  pub change : Change
  pub instance : Instance
  pub views : List (View ℕ ℕ)
  pub feed : Feeding
  pub taken : Taken

-- by this change of these views, these bytes of a text of at most this many facts were taken, and their facts
pub record HasTakenText (by : Change) (g : Graph) (i : Instance) (views : List (View ℕ ℕ)) (most : ℕ) (fed : List ℕ)
    (c : TextChange) : Type 0 where
  pub change : c.change ≡ by
  pub instance : c.instance ≡ i
  pub stored : c.views ≡ views
  pub graph : c.feed.graph ≡ g
  pub most_is : c.feed.most ≡ most
  pub facts : List (Fact ℕ)
  pub is_fed : Fed c.feed fed facts
  pub are : AreIn c.change c.instance c.views facts c.taken

-- the changer of these parts
abbrev pub text_change : Base → Feeding → Taken → TextChange
text_change b feed t =
    record { change = b.change; instance = b.legal.now; views = views_of b.store.now; feed = feed; taken = t }

-- what is true of every changer: its views may be changed, and no fact was taken that wasn't read
pub record IsChanger (c : TextChange) : Type 0 where
  pub store : IsStore c.views
  pub fit : All Fits c.views
  pub order : All (IsInFileOrder c.instance) c.views
  pub same : c.feed.instance ≡ c.instance
  pub most : c.feed.most ≤ most_count
  pub few : taken_by c.taken ≤ c.feed.handed
  pub at : IsTakenAt c.instance c.taken
