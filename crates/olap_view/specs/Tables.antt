-- What stands at the members of some categories.
--     summary_at     the summary at a member
--     HasPlaces      each member of the categories has a place of its own
--     HasRoom        no summary is so large that a sum wraps
--     AreJoinedIn    what joining a summary in one category leaves
--     JoinedSoFar    what joining it in some leaves
--     AreJoined      what joining it in each leaves
--     PlacesSoFar    places for the members so far
--     view_by        the view of a category with a summary or none at each member
--     view_in        that of a table
use Rattle.std.specs.Prelude.{◌≡◌, ◌==◌, ◌&&◌, ℕ, ◌<◌, ◌≤◌, Bool, List, length, slice_index, slice_index_or, filter_map, Option, Some, None, IfSome, Contains, if◌then◌else◌}
use Rattle.std.specs.List.{list_any}
use Rattle.std.specs.Option.{option_map}
use Rattle.olap_base.specs.Reaching.{reaches}
use Rattle.olap_base.specs.Instance.{Instance, IsMember, category_of}
use Rattle.olap_base.specs.Summaries.{Summary, ◌⊕◌}
use Rattle.olap_base.specs.Views.{View, members_of, row_at}
use Rattle.olap_view.specs.Bounds.{IsJoinable}
use Rattle.olap_view.specs.Seen.{ids, summary_of}
use Rattle.olap_view.specs.declared.tables.Table.{Table}

-- the categories whose members have places
abbrev pub categories_of : Table → List ℕ
categories_of t = ids t.categories.items

-- the place of y
abbrev pub place_in : Table → ℕ → ℕ
place_in t y = slice_index t.places.items y

-- the summary at y, if there is one
abbrev pub summary_at : Table → ℕ → Option Summary
summary_at t y = option_map summary_of (slice_index_or t.summaries.items (place_in t y) None)

-- y is a member of one of the categories
pub record IsAmong (i : Instance) (categories : List ℕ) (y : ℕ) : Type 0 where
  pub member : IsMember i y
  pub category : Contains categories (category_of i y)

-- each member of the categories has a place of its own
pub record HasPlaces (i : Instance) (t : Table) : Type 0 where
  pub size : length t.places.items ≡ length i
  pub inside : (y : ℕ) → IsAmong i (categories_of t) y → place_in t y < length t.summaries.items
  pub apart : (y z : ℕ) → IsAmong i (categories_of t) y → IsAmong i (categories_of t) z → place_in t y ≡ place_in t z
      → y ≡ z

-- the summaries at members of c are small
abbrev pub HasRoom : Instance → ℕ → Table → Type 0
HasRoom i c t = (y : ℕ) → IsMember i y → category_of i y ≡ c → IfSome (summary_at t y) IsJoinable

-- the summary, if the test holds
abbrev pub when : Bool → Summary → Option Summary
when b s = if b then Some s else None

-- the summary is joined to what stands at the member of c that x reaches
pub record AreJoinedIn (i : Instance) (c x : ℕ) (s : Summary) (before after : Table) : Type 0 where
  pub same_categories : after.categories ≡ before.categories
  pub same_places : after.places ≡ before.places
  pub same_length : length after.summaries.items ≡ length before.summaries.items
  pub at : (y : ℕ) → IsAmong i (categories_of before) y
      → summary_at after y ≡ summary_at before y ⊕ when (category_of i y == c && reaches i x y) s

-- so far the summary is joined to what stands at the members of these categories that x reaches
pub record JoinedSoFar (i : Instance) (done : List ℕ) (x : ℕ) (s : Summary) (before after : Table) : Type 0 where
  pub same_categories : after.categories ≡ before.categories
  pub same_places : after.places ≡ before.places
  pub same_length : length after.summaries.items ≡ length before.summaries.items
  pub at : (y : ℕ) → IsAmong i (categories_of before) y
      → summary_at after y ≡ summary_at before y ⊕ when (list_any (λ d. category_of i y == d) done && reaches i x y) s

-- the summary is joined to what stands at each member of the categories that x reaches
pub record AreJoined (i : Instance) (x : ℕ) (s : Summary) (before after : Table) : Type 0 where
  pub same_categories : after.categories ≡ before.categories
  pub same_places : after.places ≡ before.places
  pub same_length : length after.summaries.items ≡ length before.summaries.items
  pub at : (y : ℕ) → IsAmong i (categories_of before) y
      → summary_at after y ≡ summary_at before y ⊕ when (reaches i x y) s

-- the view of c with a summary or none at each member
abbrev pub view_by : Instance → (ℕ → Option Summary) → ℕ → View ℕ ℕ
view_by i at c = record { target = c; rows = filter_map (λ y. row_at y (at y)) (members_of i c) }

-- the view of c with the table's summaries
abbrev pub view_in : Instance → Table → ℕ → View ℕ ℕ
view_in i t c = view_by i (summary_at t) c

-- each of the first n members that is of the categories has one of the first k places
pub record PlacesSoFar (i : Instance) (categories : List ℕ) (n k : ℕ) (places : List ℕ) : Type 0 where
  pub size : length places ≡ length i
  pub few : k ≤ n
  pub inside : (y : ℕ) → y < n → Contains categories (category_of i y) → slice_index places y < k
  pub apart : (y z : ℕ) → y < n → z < n → Contains categories (category_of i y) → Contains categories (category_of i z)
      → slice_index places y ≡ slice_index places z → y ≡ z
