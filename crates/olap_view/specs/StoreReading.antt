-- A text of stored views, while it is read.
--     Record            a record: its fields
--     said_of           what the records so far say of a member
--     Tells             rows are those that the records so far tell
--     IsBeginning       a record without a fault begins a view
--     IsRowFor          a record without a fault is a row
--     Says              what a record without a fault says
--     IsNew             a row's member is one of the members, and has no row
--     IsStoreFaultOf    the refusal tells the first fault of the records after the header
use Rattle.std.specs.Prelude.{◌≡◌, ◌≢◌, ◌==◌, ◌+◌, ◌<◌, ◌≤◌, ⊤, true, false, ℕ, List, length, find, All, AllPairs, IfSome, Option, Some, None, is_some}
use Rattle.std.specs.List.{list_any}
use Rattle.std.specs.Option.{option_and_then}
use Rattle.olap_base.specs.Graph.{Graph, IsCategory}
use Rattle.olap_base.specs.Instance.{Instance, IsMember}
use Rattle.olap_base.specs.Limits.{most_views}
use Rattle.olap_base.specs.Refusing.{IsFor}
use Rattle.olap_base.specs.declared.refusals.Fault.{Fault}
use Rattle.olap_base.specs.declared.refusals.Refusal.{Refusal}
use Rattle.olap_base.specs.Summaries.{Summary}
use Rattle.olap_view.specs.Seen.{summary_of}
use Rattle.olap_view.specs.StoreText.{begun, category_number, is_beginning, is_row_of, summary_read}
use Rattle.olap_instance.specs.Members.{member_number}
use Rattle.olap_view.specs.StoredRows.{IsPlaced, begun_in, stored_at}
use Rattle.olap_view.specs.Stores.{IsStored}
use Rattle.olap_view.specs.declared.judging.Entry.{Entry}
use Rattle.olap_view.specs.declared.judging.Entry.TheVariants as entry
use Rattle.olap_view.specs.declared.kinds.StoreKind.{StoreKind}
use Rattle.olap_records.specs.Faults.{field}
use Rattle.olap_view.specs.declared.stored_rows.StoredRows.{StoredRows}

-- a record: its fields
abbrev pub Record : Type 0
Record = List (List ℕ)

-- the summary in the first of these records that is a row of y
abbrev pub said_of : Instance → List Record → ℕ → Option Summary
said_of i rows y = option_and_then summary_read (find (is_row_of i y) rows)

-- a summary that a row of y may store
abbrev pub IsStoredAt : ℕ → Summary → Type 0
IsStoredAt y s = IsStored (record { at = y; summary = s })

-- the categories are those of the views that these records begin, and each member has the summary in its row, if there
-- is one
pub record Tells (g : Graph) (i : Instance) (rows : List Record) (t : StoredRows) : Type 0 where
  pub categories : begun_in t ≡ begun g rows
  pub differ : AllPairs ◌≢◌ (begun g rows)
  pub few : length (begun g rows) ≤ most_views
  pub known : All (IsCategory g) (begun g rows)
  pub members : length t.places.items ≡ length i
  pub placed : IsPlaced t
  pub at : (y : ℕ) → IsMember i y → stored_at t y ≡ said_of i rows y
  pub there : (y : ℕ) → IsMember i y → is_some (stored_at t y) ≡ list_any (is_row_of i y) rows
  pub stored : (y : ℕ) → IsMember i y → IfSome (stored_at t y) (IsStoredAt y)
  pub size : length rows ≡ length (begun g rows) + length t.summaries.items

-- after these records the record begins a view of c
pub record IsBeginning (g : Graph) (rows : List Record) (r : Record) (c : ℕ) : Type 0 where
  pub begins : is_beginning r ≡ true
  pub named : c ≡ category_number g r
  pub category : IsCategory g c
  pub first : list_any (λ d. d == c) (begun g rows) ≡ false
  pub room : length (begun g rows) < most_views

-- after these records the record is a row of m with these numbers
pub record IsRowFor (i : Instance) (rows : List Record) (r : Record) (m : ℕ) (s : Summary) : Type 0 where
  pub row : is_beginning r ≡ false
  pub named : m ≡ member_number i (field r 1)
  pub member : IsMember i m
  pub numbers : summary_read r ≡ Some s
  pub stored : IsStoredAt m s
  pub first : list_any (is_row_of i m) rows ≡ false

-- after these records that is what the record says
abbrev pub Says : Graph → Instance → List Record → Record → Entry → Type 0
Says g i rows r (entry.Beginning c) = IsBeginning g rows r c.0
Says g i rows r (entry.Row m s) = IsRowFor i rows r m.0 (summary_of s)

-- a row's member is one of the members, and has no row so far
abbrev pub IsNew : StoredRows → Entry → Type 0
IsNew t (entry.Beginning c) = ⊤
IsNew t (entry.Row m s) = (m.0 < length t.places.items) × (stored_at t m.0 ≡ None)

-- the refusal tells the first fault of the records after the header, or is out of memory
abbrev pub IsStoreFaultOf : Option (ℕ × StoreKind) → Refusal (Fault StoreKind) → Type 0
IsStoreFaultOf fault = IsFor (λ f. (i : ℕ) × (f.at ≡ i + 2) × (fault ≡ Some (i, f.kind)))
