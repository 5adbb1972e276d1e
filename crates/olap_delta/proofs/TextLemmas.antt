-- Stored views that change by the facts of a text that comes in pieces.
use Rattle.std.{proofs.Common.{◌≡◌, ◌++◌, ◌∙◌, ℕ, List, ap, subst, sym}, specs.Prelude.{Ok, Err, Result}}
use Rattle.olap_base.specs.{Graph.Graph, Instance.Instance, Refusing.IsRefusedBy, Views.{Fact, View}}
use Rattle.olap_base.specs.declared.refusals.{Fault.Fault, Refusal.Refusal}
use Rattle.olap_records.specs.Standing.{records_fed}
use Rattle.olap_facts.specs.{FactText.facts_read_within, Feeding.{Fed, Feeding, IsSameSetting, fed_read}}
use Rattle.olap_facts.specs.declared.kinds.FactKind.{FactKind}
use Rattle.olap_view.specs.declared.views.Store.{Store}
use Rattle.olap_delta.{proofs.DeltaLemmas.{after_all, refused_all}, specs.Changes.store_changed, specs.Changing.step_of}
use Rattle.olap_delta.specs.Reading.{views_changed}
use Rattle.olap_delta.specs.Taking.{AreAllIn, AreIn, HasTakenText, IsChanger, IsStoreAfter, IsStoreAfterAll, TextChange}
use Rattle.olap_delta.specs.declared.{changes.Change.Change, kinds.ChangeKind.ChangeKind, kinds.DeltaKind.DeltaKind}
use Rattle.olap_delta.specs.declared.taking.Taken.{Taken}

-- the changer after a piece
abbrev pub with-taken : TextChange → Feeding → Taken → TextChange
with-taken c feed t =
    record { change = c.change; instance = c.instance; views = c.views; feed = feed; taken = t }

module _ (by : Change) (g : Graph) (i : Instance) (views : List (View ℕ ℕ)) (most : ℕ) (fed : List ℕ) (c : TextChange)
    (inside : IsChanger c) (h : HasTakenText by g i views most fed c) where
  -- a piece more
  pub taken-more : (piece : List ℕ) (facts : List (Fact ℕ)) (feed : Feeding) (t : Taken) → IsSameSetting c.feed feed
      → Fed feed (fed ++ piece) (h.facts ++ facts) → AreIn c.change c.instance c.views (h.facts ++ facts) t
      → HasTakenText by g i views most (fed ++ piece) (with-taken c feed t)
  taken-more piece facts feed t same f a = record {
    change = h.change;
    instance = h.instance;
    stored = h.stored;
    graph = same.graph ∙ h.graph;
    most_is = same.most ∙ h.most_is;
    facts = h.facts ++ facts;
    is_fed = f;
    are = a;
  }

  -- what a text stands for, by what the changer reads against
  pub read-by : (text : List ℕ) → fed_read c.feed text ≡ facts_read_within most g i (records_fed text)
  read-by text =
      ap (λ (q : Graph). facts_read_within c.feed.most q c.feed.instance (records_fed text)) h.graph
      ∙ ap (λ (j : Instance). facts_read_within c.feed.most g j (records_fed text)) (inside.same ∙ h.instance)
      ∙ ap (λ (m : ℕ). facts_read_within m g i (records_fed text)) h.most_is

  -- a refusal is that of the text by what the changer reads against
  pub refused-by : (text : List ℕ) (e : Refusal (Fault ChangeKind))
      → IsRefusedBy e (views_changed (step_of c.change) c.instance c.views (fed_read c.feed text))
      → IsRefusedBy e (views_changed (step_of by) i views (facts_read_within most g i (records_fed text)))
  refused-by text e r =
      subst (λ (all : Result (List (Fact ℕ)) (Fault FactKind)). IsRefusedBy e (views_changed (step_of by) i views all))
      (read-by text)
      (rw (h.change, h.instance, h.stored) at r)

  -- no store, where the text is refused
  pub none-after : (e : Refusal (Fault ChangeKind))
      → IsRefusedBy e (views_changed (step_of c.change) c.instance c.views (fed_read c.feed fed))
      → IsStoreAfterAll by i views (facts_read_within most g i (records_fed fed)) (Err e)
  none-after e r =
      refused_all by i views (facts_read_within most g i (records_fed fed)) e (refused-by fed e r)

  module _ (t : Taken) (all : AreAllIn c.change c.instance c.views (fed_read c.feed fed) t) where
    -- the store after all facts of the text
    pub all-after : (s : Store) → IsStoreAfter c.change c.instance c.views all.facts (Ok s)
        → IsStoreAfterAll by i views (facts_read_within most g i (records_fed fed)) (Ok s)
    all-after s a =
        after_all by i views (facts_read_within most g i (records_fed fed)) all.facts (sym (read-by fed) ∙ all.read) s
        (rw (h.change, h.instance, h.stored) at a)

    -- or why a fact is refused
    pub fact-refused : (e : Refusal (Fault DeltaKind)) (r : Refusal (Fault ChangeKind))
        → IsStoreAfter c.change c.instance c.views all.facts (Err e)
        → (IsRefusedBy e (store_changed (step_of c.change) c.instance c.views all.facts)
        → IsRefusedBy r (views_changed (step_of c.change) c.instance c.views (Ok all.facts)))
        → IsStoreAfterAll by i views (facts_read_within most g i (records_fed fed)) (Err r)
    fact-refused e r a told =
        none-after r
        (subst (λ (q : Result (List (Fact ℕ)) (Fault FactKind)).
        IsRefusedBy r (views_changed (step_of c.change) c.instance c.views q)) (sym all.read) (told a.err))
