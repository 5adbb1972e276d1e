-- Values that come or go all at once, if none of them could be refused.
--     HasRoom        no sum on the way passes the bound
--     changed_by     what values with this total make of a row
--     Admits         none of them could be refused there, whatever their order
--     IsJoined       that is what became of a row
--     IsJoinedIn     of the rows of a category
--     IsOnce         a member reaches one member of a category at most
--     AreJoined      of the rows of all categories
use Rattle.std.specs.Prelude.{◌≡◌, ◌≢◌, ⊤, ℕ, ◌+◌, ◌-◌, ◌*◌, ◌^◌, ◌≤◌, pos, neg_ℤ, ◌+ℤ◌, ◌-ℤ◌, ◌≤ℤ◌, ◌<ℤ◌, List, All, Contains, Option, None, Some, true}
use Rattle.olap_base.specs.Instance.{Instance, category_of}
use Rattle.olap_base.specs.Limits.{most_count, most_sum}
use Rattle.olap_base.specs.Reaching.{reaches}
use Rattle.olap_base.specs.Summaries.{Summary, ◌⊕◌}
use Rattle.olap_base.specs.Views.{members_of}
use Rattle.olap_view.specs.SummaryTables.{Summarized, stands_at}
use Rattle.olap_view.specs.Tables.{IsAmong}
use Rattle.olap_delta.specs.Lots.{lots_at}
use Rattle.olap_delta.specs.declared.changes.Change.{Change}
use Rattle.olap_delta.specs.declared.changes.Change.TheVariants as by
use Rattle.olap_delta.specs.declared.lots.Lot.{Lot}

-- ---- a row

-- the sum stays within its bound, whichever values of 64 bits come or go, up to n of them
pub record HasRoom (n : ℕ) (s : Summary) : Type 0 where
  pub low : neg_ℤ (pos most_sum) ≤ℤ (s.sum -ℤ pos (n * 2 ^ 63))
  pub high : (s.sum +ℤ pos (n * 2 ^ 63)) ≤ℤ pos most_sum

-- the summary without some values, none of which is the least or the greatest
abbrev pub less : Summary → Summary → Summary
less s t = record s { count = s.count - t.count; sum = s.sum -ℤ t.sum }

-- what values with the second as their total make of the first
abbrev pub changed_by : Change → Option Summary → Option Summary → Option Summary
changed_by by.Append there lot = there ⊕ lot
changed_by by.Retract None lot = None
changed_by by.Retract (Some s) None = Some s
changed_by by.Retract (Some s) (Some t) = Some (less s t)

-- all of them may come: there is room for them
abbrev pub AdmitsNew : Option Summary → Option Summary → Type 0
AdmitsNew there None = ⊤
AdmitsNew None (Some t) = t.count ≤ most_count
AdmitsNew (Some s) (Some t) = (s.count + t.count ≤ most_count) × HasRoom (most_count - s.count) s

-- they lie between the least and the greatest of a row, which has others too
pub record AreWithin (s t : Summary) : Type 0 where
  pub least : s.least <ℤ t.least
  pub greatest : t.greatest <ℤ s.greatest
  pub count : t.count + 2 ≤ s.count
  pub room : HasRoom s.count s

-- all of them may go: they are there, and none is the least or the greatest
abbrev pub AdmitsLess : Option Summary → Option Summary → Type 0
AdmitsLess there None = ⊤
AdmitsLess None (Some t) = ⊥
AdmitsLess (Some s) (Some t) = AreWithin s t

-- none of the values could be refused, whatever their order
abbrev pub Admits : Change → Option Summary → Option Summary → Type 0
Admits by.Append there lot = AdmitsNew there lot
Admits by.Retract there lot = AdmitsLess there lot

-- that is what became of the row
pub record IsJoined (change : Change) (there lot after : Option Summary) : Type 0 where
  pub admits : Admits change there lot
  pub is : after ≡ changed_by change there lot

-- ---- a table

-- x reaches one member of c at most
abbrev pub IsOnce : Instance → ℕ → ℕ → Type 0
IsOnce i c x = (y z : ℕ) → Contains (members_of i c) y → Contains (members_of i c) z → reaches i x y ≡ true
    → reaches i x z ≡ true → y ≡ z

-- that is what became of each row of c by such values at its member, and no other row changed
pub record IsJoinedIn (change : Change) (c : ℕ) (lot : ℕ → Option Summary) (old new : Summarized) : Type 0 where
  pub at : (y : ℕ) → IsAmong old.instance old.categories y → category_of old.instance y ≡ c
      → IsJoined change (stands_at old y) (lot y) (stands_at new y)
  pub others : (y : ℕ) → IsAmong old.instance old.categories y → category_of old.instance y ≢ c
      → stands_at new y ≡ stands_at old y

-- that is what became of each row by the lots
pub record AreJoined (change : Change) (lots : List Lot) (old new : Summarized) : Type 0 where
  pub once : (c : ℕ) → Contains old.categories c → All (λ l. IsOnce old.instance c l.member.0) lots
  pub at : (y : ℕ) → IsAmong old.instance old.categories y
      → IsJoined change (stands_at old y) (lots_at old.instance lots y) (stands_at new y)
