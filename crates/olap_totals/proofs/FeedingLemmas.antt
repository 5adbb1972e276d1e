-- Stored views that change by the facts of a file that is read piece by piece.
use Rattle.std.proofs.Common.{◌≡◌, ◌≤◌, ◌∙◌, ℕ, List, Option, Result, Ok, Err, length, codes, ap, refl}
use Rattle.std.specs.{Io.KnownBytes.Consumes, Result.result_map_both}
use Rattle.olap_base.specs.{Graph.Graph, Instance.Instance, Limits.most_facts, Views.{Fact, View}}
use Rattle.olap_base.specs.declared.refusals.Fault.{Fault}
use Rattle.olap_ast.specs.Schema.{Schema}
use Rattle.olap_records.specs.{Records.records_of, Standing.unmarked, Tables.named}
use Rattle.olap_facts.{proofs.MeaningLemmas.facts-named, specs.FactMeaning.facts_meant}
use Rattle.olap_facts.specs.{FactText.facts_read_within, Kinds.{name_of_kind as fact_kind}}
use Rattle.olap_facts.specs.declared.kinds.FactKind.{FactKind}
use Rattle.olap_outside.specs.{Files.Opens, declared.outside.Library.{Ghosts as Library}}
use Rattle.olap_order.specs.{Judged.IsLater, Order.{Order, and_then}, Refusals.{IsRefusal, part_text}}
use Rattle.olap_order.specs.{Steps.meaning_or_fault, Taken.FileStep, declared.replies.Stop.Stop}
use Rattle.olap_reading.proofs.{ReadingLemmas.{content_read, fault_read}, RollingLemmas.content}
use Rattle.olap_reading.specs.Rest.{IsOfRest}
use Rattle.olap_view.specs.{Seen.views_of, declared.views.Store.Store}
use Rattle.olap_delta.{proofs.NamedLemmas.change-named, specs.Changes.store_after, specs.Changing.{step_named, step_of}}
use Rattle.olap_delta.specs.{Kinds.{name_of_change_kind, name_of_kind}, Reading.views_changed}
use Rattle.olap_delta.specs.{Taking.{HasTakenText, TextChange}, declared.changes.Change.Change}
use Rattle.olap_delta.specs.declared.kinds.{ChangeKind.ChangeKind, DeltaKind.DeltaKind}
use Rattle.olap_totals.specs.Commands.{changed_file}
use Rattle.olap_delta.specs.declared.kinds.ChangeKind.TheVariants as change

-- these bytes were taken off the front of what was left, the last this many at once, and the changer has taken them
pub record IsSoFar (old new : Option (List ℕ)) (count : ℕ) (by : Change) (g : Graph) (i : Instance)
    (views : List (View ℕ ℕ))
    (c : TextChange) : Type 0 where
  pub text : List ℕ
  pub parts : Consumes old new text
  pub long : count ≡ 65536 → 3 ≤ length text
  pub taken : HasTakenText by g i views most_facts (unmarked text) c

module _ {D : Type 0} {L : Library D} {old new : D} (by : Change) (s : Schema) (i : Instance) (views : List (View ℕ ℕ))
    (file : List ℕ) (rest : Option (List ℕ)) (opens : Opens (L.contents old) file rest)
    (same : L.contents new ≡ L.contents old) (later : IsLater L old new) where
  -- what the views come to after the facts
  abbrev after : List (Fact ℕ) → Order (List (View ℕ ℕ))
  after table =
      meaning_or_fault (codes "facts") (codes "record") (store_after (step_named by) i 2 views table)

  -- what the text of the facts comes to
  abbrev next : List ℕ → Order (List (View ℕ ℕ))
  next text = and_then (meaning_or_fault (codes "facts") (codes "record")
      (facts_meant most_facts s.graph i (records_of text))) after

  -- it is what the views come to after what was read
  next_is : (text : List ℕ) → next text ≡ meaning_or_fault (codes "facts") (codes "record") (named name_of_change_kind
      (views_changed (step_of by) i views (facts_read_within most_facts s.graph i (records_of text))))
  next_is text =
      ap (λ r. and_then (meaning_or_fault (codes "facts") (codes "record") r) after)
      (facts-named most_facts s.graph i (records_of text))
      ∙ go (facts_read_within most_facts s.graph i (records_of text))
    where
      to : (r : Result (List (View ℕ ℕ)) (Fault DeltaKind))
          → meaning_or_fault (codes "facts") (codes "record") (named name_of_kind r)
          ≡ meaning_or_fault (codes "facts") (codes "record") (named name_of_change_kind
          (result_map_both (λ vs. vs) (λ f. record { at = f.at; kind = change.Fact f.kind }) r))
      to (Ok vs) = refl
      to (Err f) = refl

      go : (r : Result (List (Fact ℕ)) (Fault FactKind))
          → and_then (meaning_or_fault (codes "facts") (codes "record") (named fact_kind r)) after
          ≡ meaning_or_fault (codes "facts") (codes "record")
          (named name_of_change_kind (views_changed (step_of by) i views r))
      go (Ok facts) = ap (meaning_or_fault (codes "facts") (codes "record")) (change-named by i 2 views facts)
          ∙ to (store_after (step_of by) i 2 views facts)
      go (Err f) = refl

  -- the first fault of the facts in the file, or the first fact that can't be taken
  pub change_out : (fault : Fault ChangeKind) → IsOfRest rest (λ text.
      views_changed (step_of by) i views (facts_read_within most_facts s.graph i (records_of text)) ≡ Err fault)
      → (stop : Stop)
      → IsRefusal (part_text (codes "facts") (codes "record") fault.at (name_of_change_kind fault.kind)) stop
      → FileStep L old new (changed_file (step_named by) s i views file) views_of (Err stop)
  change_out fault h stop is =
      fault_read file next h.text
      (part_text (codes "facts") (codes "record") fault.at (name_of_change_kind fault.kind))
      (next_is h.text ∙ ap (λ r. meaning_or_fault (codes "facts") (codes "record") (named name_of_change_kind r)) h.so)
      (content (L.contents old) file rest h.text opens h.told) later same stop is

  -- the stored views after the facts in the file
  pub change_in : (store : Store) → IsOfRest rest (λ text.
      views_changed (step_of by) i views (facts_read_within most_facts s.graph i (records_of text))
      ≡ Ok (views_of store))
      → FileStep L old new (changed_file (step_named by) s i views file) views_of (Ok store)
  change_in store h =
      let out = content_read file next h.text (views_of store)
      (next_is h.text ∙ ap (λ r. meaning_or_fault (codes "facts") (codes "record") (named name_of_change_kind r)) h.so)
      (content (L.contents old) file rest h.text opens h.told) later same in
      record { comes_out = out.comes_out; ends = tt; same = same; later = later }
