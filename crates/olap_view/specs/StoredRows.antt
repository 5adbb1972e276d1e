-- The rows of stored views, while they are read.
--     begun_in     the categories whose views have begun
--     numbered     the summary of that number, from 1 on
--     stored_at    the summary in a member's row
--     IsPlaced     each row is one member's
--     HasPut       a row is put at a member
use Rattle.std.specs.Prelude.{◌≡◌, ◌≢◌, ◌+◌, ◌≤◌, ℕ, zero, suc, List, length, slice_index, count_by, nat_lt, Option, Some, None}
use Rattle.std.specs.List.{slice_get}
use Rattle.std.specs.Option.{option_map}
use Rattle.olap_base.specs.Limits.{most_members}
use Rattle.olap_base.specs.Summaries.{Summary}
use Rattle.olap_view.specs.Seen.{ids, summary_of}
use Rattle.olap_view.specs.declared.stored_rows.StoredRows.{StoredRows}
use Rattle.olap_view.specs.declared.summaries.Summary as told

-- the categories whose views have begun
abbrev pub begun_in : StoredRows → List ℕ
begun_in t = ids t.categories.items

-- the summary of that number, from 1 on: 0 is none
abbrev pub numbered : List told.Summary → ℕ → Option Summary
numbered summaries zero = None
numbered summaries (suc k) = option_map summary_of (slice_get summaries k)

-- the summary in the row of y, if it has one
abbrev pub stored_at : StoredRows → ℕ → Option Summary
stored_at t y = numbered t.summaries.items (slice_index t.places.items y)

-- each member has the number of a summary or 0, and as many have one as there are summaries
pub record IsPlaced (t : StoredRows) : Type 0 where
  pub few : length t.places.items ≤ most_members
  pub inside : (y : ℕ) → slice_index t.places.items y ≤ length t.summaries.items
  pub count : count_by (λ k. nat_lt 0 k) t.places.items ≡ length t.summaries.items

-- y has a row with that summary now, and nothing else changes
pub record HasPut (y : ℕ) (s : Summary) (before after : StoredRows) : Type 0 where
  pub same_categories : after.categories ≡ before.categories
  pub same_members : length after.places.items ≡ length before.places.items
  pub more : length after.summaries.items ≡ length before.summaries.items + 1
  pub placed : IsPlaced after
  pub here : stored_at after y ≡ Some s
  pub elsewhere : (z : ℕ) → z ≢ y → stored_at after z ≡ stored_at before z
