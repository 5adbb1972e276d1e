-- Stored views after the facts of a text.
--     views_changed   the views, or the fault of the text, or that of the first fact that is refused
use Rattle.std.specs.Prelude.{ℕ, List, Result, Ok, Err}
use Rattle.std.specs.Result.{result_map_both}
use Rattle.olap_base.specs.Instance.{Instance}
use Rattle.olap_base.specs.Views.{Fact, View}
use Rattle.olap_base.specs.declared.refusals.Fault.{Fault}
use Rattle.olap_facts.specs.declared.kinds.FactKind.{FactKind}
use Rattle.olap_delta.specs.Changes.{Step, store_after}
use Rattle.olap_delta.specs.declared.kinds.ChangeKind.{ChangeKind}
use Rattle.olap_delta.specs.declared.kinds.ChangeKind.TheVariants as change

-- the views after the facts that a text stands for, or the text's fault, or that of the first fact that is refused; the
-- first fact is record 2
abbrev pub views_changed : Step → Instance → List (View ℕ ℕ) → Result (List (Fact ℕ)) (Fault FactKind)
    → Result (List (View ℕ ℕ)) (Fault ChangeKind)
views_changed step i views (Err f) = Err (record { at = f.at; kind = change.Text f.kind })
views_changed step i views (Ok facts) =
    result_map_both (λ vs. vs) (λ f. record { at = f.at; kind = change.Fact f.kind }) (store_after step i 2 views facts)
