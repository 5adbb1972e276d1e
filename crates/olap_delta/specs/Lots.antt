-- Facts that are joined by member.
--     lots_at     the total of lots at a member
--     IsLot       a lot of facts at a member
--     AreLots     what is true of lots that facts were joined to
--     StandFor    they are the lots of these facts
--     AreMore     one fact more was joined to them
use Rattle.std.specs.Prelude.{◌≡◌, ℕ, ◌+◌, ◌<◌, ◌≤◌, List, [], ◌∷◌, ◌++◌, length, map, All, Contains, FitsSigned, Option, None}
use Rattle.std.specs.Int.{w64}
use Rattle.olap_base.specs.Instance.{Instance}
use Rattle.olap_base.specs.Reaching.{reaches}
use Rattle.olap_base.specs.Summaries.{Summary, ◌⊕◌}
use Rattle.olap_base.specs.Views.{Fact, members as points, total_of_facts}
use Rattle.olap_view.specs.Bounds.{IsOfValues}
use Rattle.olap_view.specs.Seen.{summary_of}
use Rattle.olap_view.specs.Tables.{when}
use Rattle.olap_delta.specs.declared.lots.Lot.{Lot}
use Rattle.olap_delta.specs.declared.lots.Lots.{Lots}

-- the total of those whose members reach y
abbrev pub lots_at : Instance → List Lot → ℕ → Option Summary
lots_at i [] y = None
lots_at i (l ∷ lots) y = when (reaches i l.member.0 y) (summary_of l.summary) ⊕ lots_at i lots y

-- at one of this many members, and of at most this many values of 64 bits
pub record IsLot (most members : ℕ) (l : Lot) : Type 0 where
  pub member : l.member.0 < members
  pub few : l.summary.count ≤ most
  pub values : IsOfValues l.summary.count (summary_of l.summary)

-- no more lots than facts, and each is a lot
pub record AreLots (g : Lots) : Type 0 where
  pub few : length g.lots.items ≤ g.taken
  pub each : All (IsLot g.taken (length g.places.items)) g.lots.items

-- at each member the facts that reach it have the same total as the lots that reach it, and each fact stands at a lot's
-- member
pub record StandFor (i : Instance) (facts : List (Fact ℕ)) (g : Lots) : Type 0 where
  pub taken : g.taken ≡ length facts
  pub values : All (λ f. FitsSigned w64 f.value) facts
  pub members : All (λ f. Contains (map (λ l. l.member.0) g.lots.items) f.at) facts
  pub at : (y : ℕ) → lots_at i g.lots.items y ≡ total_of_facts (points i) facts y

-- one fact more was joined to them
pub record AreMore (f : Fact ℕ) (old new : Lots) : Type 0 where
  pub places : length new.places.items ≡ length old.places.items
  pub taken : new.taken ≡ old.taken + 1
  pub lots : AreLots new
  pub stand : (i : Instance) (facts : List (Fact ℕ)) → StandFor i facts old → StandFor i (facts ++ f ∷ []) new
