-- What holds of the text of stored views.
--     PrintedNumbersAreRead   the numbers of a printed row are read as they were
--     PrintedStoresAreRead    printed views are read as they were
--     DirectViewsAreReadBack  so are direct views
--     ReadStoresAreSound      views that are read are a sound store
--     StoreIsMeant            what is read of a text is what it means
use Rattle.std.specs.Prelude.{◌≡◌, ◌≢◌, ◌≤◌, ◌∷◌, ℕ, List, length, All, AllPairs, FitsSigned, Some, Ok}
use Rattle.std.specs.Int.{w64}
use Rattle.olap_base.specs.Graph.{Graph, IsCategory, IsHierarchy}
use Rattle.olap_base.specs.Instance.{Instance, IsInstance}
use Rattle.olap_base.specs.Limits.{most_count, most_views}
use Rattle.olap_base.specs.Views.{Fact, Row, View, direct_views, members}
use Rattle.olap_records.specs.Tables.{named}
use Rattle.olap_view.specs.Kinds.{name_of_kind}
use Rattle.olap_view.specs.StoreMeaning.{store_meant}
use Rattle.olap_view.specs.StoreText.{records_of_store, store_read, summary_read}
use Rattle.olap_view.specs.Stores.{Fits, IsInFileOrder, IsSoundStore, IsStore, IsStored}
use Rattle.olap_view.specs.ViewText.{fields_in}

-- the record that is printed of a row that may be stored spells the row's numbers
abbrev pub PrintedNumbersAreRead : Type 0
PrintedNumbersAreRead = (i : Instance) (name : List ℕ) (r : Row ℕ) → IsStored r
    → summary_read (name ∷ fields_in i r) ≡ Some r.summary

-- views that a store may hold, each of a category of the graph and in file order, are read as they are printed
abbrev pub PrintedStoresAreRead : Type 0
PrintedStoresAreRead = (g : Graph) (i : Instance) (views : List (View ℕ ℕ)) → IsHierarchy g → IsInstance i
    → IsStore views
    → All Fits views → All (λ v. IsCategory g v.target) views → All (IsInFileOrder i) views
    → store_read g i (records_of_store g i views) ≡ Ok views

-- so are the direct views of a few categories, if the facts are no more than a stored row may count, and their values
-- of 64 bits
abbrev pub DirectViewsAreReadBack : Type 0
DirectViewsAreReadBack = (g : Graph) (i : Instance) (facts : List (Fact ℕ)) (categories : List ℕ) → IsHierarchy g
    → IsInstance i → length facts ≤ most_count → All (λ f. FitsSigned w64 f.value) facts
    → length categories ≤ most_views → AllPairs ◌≢◌ categories → All (IsCategory g) categories
    → store_read g i (records_of_store g i (direct_views (members i) facts categories))
    ≡ Ok (direct_views (members i) facts categories)

-- views that are read are a sound store: few, of different categories, of rows within the bounds at different members
abbrev pub ReadStoresAreSound : Type 0
ReadStoresAreSound = (g : Graph) (i : Instance) (records : List (List (List ℕ))) (views : List (View ℕ ℕ))
    → store_read g i records ≡ Ok views → IsSoundStore g i views

-- what is read of a text is what it means, with a fault's name in place of its kind
abbrev pub StoreIsMeant : Type 0
StoreIsMeant = (g : Graph) (i : Instance) (records : List (List (List ℕ)))
    → store_meant g i records ≡ named name_of_kind (store_read g i records)
