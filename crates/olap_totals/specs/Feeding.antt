-- What the facts of an opened file make of stored views.
--     IsChangedBy      the store after the facts that records stand for, or why there is none
--     IsWhyUnchanged   why the facts of a file changed no stored views
use Rattle.std.specs.Prelude.{ℕ, List, Option, Result, ⊤}
use Rattle.olap_base.specs.Graph.{Graph}
use Rattle.olap_base.specs.Instance.{Instance}
use Rattle.olap_base.specs.Limits.{most_facts}
use Rattle.olap_base.specs.Refusing.{IsRefusedBy}
use Rattle.olap_base.specs.Views.{View}
use Rattle.olap_base.specs.declared.refusals.Fault.{Fault}
use Rattle.olap_base.specs.declared.refusals.Refusal.{Refusal}
use Rattle.olap_records.specs.Records.{records_of}
use Rattle.olap_facts.specs.FactText.{facts_read_within}
use Rattle.olap_view.specs.declared.views.Store.{Store}
use Rattle.olap_delta.specs.Changes.{Step}
use Rattle.olap_delta.specs.Reading.{views_changed}
use Rattle.olap_delta.specs.Taking.{IsStoreAfterAll}
use Rattle.olap_delta.specs.declared.changes.Change.{Change}
use Rattle.olap_delta.specs.declared.kinds.ChangeKind.{ChangeKind}
use Rattle.olap_reading.specs.Rest.{IsOfRest}
use Rattle.olap_totals.specs.declared.feeding.Unchanged.{Unchanged}
use Rattle.olap_totals.specs.declared.feeding.Unchanged.TheVariants as unchanged

-- the store after the change by the facts that records stand for, or why there is none
abbrev pub IsChangedBy : Change → Graph → Instance → List (View ℕ ℕ) → List (List (List ℕ))
    → Result Store (Refusal (Fault ChangeKind)) → Type 0
IsChangedBy by g i views records = IsStoreAfterAll by i views (facts_read_within most_facts g i records)

-- a refusal tells the first fault of the file's text, or the first fact that can't be taken
abbrev pub IsWhyUnchanged : Step → Graph → Instance → List (View ℕ ℕ) → Option (List ℕ) → Unchanged → Type 0
IsWhyUnchanged step g i views rest unchanged.Failed = ⊤
IsWhyUnchanged step g i views rest (unchanged.Refused e) = IsOfRest rest (λ text.
    IsRefusedBy e (views_changed step i views (facts_read_within most_facts g i (records_of text))))
