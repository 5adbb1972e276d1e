-- What appending to direct views and retracting from them gives.
--     AppendGivesDirectViews    the direct views of the facts followed by the new ones, or a row is full
--     RetractGivesDirectViews   the direct views of the facts that are left, or a withdrawn value is an extreme
--     ChangesAreNamed           a change by the names of faults
use Rattle.std.specs.Prelude.{◌≡◌, ◌++◌, ℕ, List, All, FitsSigned, MatchResult}
use Rattle.std.specs.Int.{w64}
use Rattle.std.specs.List.Sorted.{IsPermutation}
use Rattle.olap_base.specs.Graph.{Graph}
use Rattle.olap_base.specs.Instance.{Instance, IsLawful}
use Rattle.olap_base.specs.Views.{Fact, View, direct_views, members}
use Rattle.olap_records.specs.Tables.{named}
use Rattle.olap_view.specs.Stores.{Fits}
use Rattle.olap_delta.specs.Changes.{appended, retracted, store_after, store_changed}
use Rattle.olap_delta.specs.Changing.{step_named, step_of}
use Rattle.olap_delta.specs.Kinds.{name_of_kind}
use Rattle.olap_delta.specs.declared.changes.Change.{Change}
use Rattle.olap_delta.specs.declared.kinds.DeltaKind.TheVariants as kind

-- direct views that may be stored, and new facts whose values have 64 bits
abbrev pub AppendGivesDirectViews : Type 0
AppendGivesDirectViews = (g : Graph) (i : Instance) (categories : List ℕ) (facts new : List (Fact ℕ)) → IsLawful g i
    → All Fits (direct_views (members i) facts categories) → All (λ f. FitsSigned w64 f.value) new
    → MatchResult (store_changed appended i (direct_views (members i) facts categories) new)
    (λ views. views ≡ direct_views (members i) (facts ++ new) categories) (λ fault. fault.kind ≡ kind.Full)

-- direct views that may be stored, of facts that are those left and those withdrawn in some order
abbrev pub RetractGivesDirectViews : Type 0
RetractGivesDirectViews = (g : Graph) (i : Instance) (categories : List ℕ) (facts left withdrawn : List (Fact ℕ))
    → IsLawful g i → All Fits (direct_views (members i) facts categories) → IsPermutation facts (left ++ withdrawn)
    → MatchResult (store_changed retracted i (direct_views (members i) facts categories) withdrawn)
    (λ views. views ≡ direct_views (members i) left categories) (λ fault. fault.kind ≡ kind.Extreme)

-- the views after facts by the names of faults are those as it is done, with a fault's name in place of its kind
abbrev pub ChangesAreNamed : Type 0
ChangesAreNamed = (change : Change) (i : Instance) (at : ℕ) (views : List (View ℕ ℕ)) (facts : List (Fact ℕ))
    → store_after (step_named change) i at views facts
    ≡ named name_of_kind (store_after (step_of change) i at views facts)
