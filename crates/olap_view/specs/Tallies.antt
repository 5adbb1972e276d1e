-- What a tally is, and for which fact tables it stands.
--     Tallied          what a tally has counted
--     tallied_at       what stands at a member
--     StandsFor        it stands for a fact table
--     waiting_at       what waits at the members that reach a member
--     tallied          what a tally has counted in a summary table and in what waits
--     IsTableOf        a summary table with all of it
--     IsWithin         a summary no greater than that of this many values
--     IsTally          what is true of every tally
use Rattle.std.specs.Prelude.{◌≡◌, ℕ, ◌+◌, ◌*◌, ◌^◌, ◌≤◌, List, [], ◌∷◌, length, map, slice_index_or, All, FitsSigned, IfSome, Option, None, if◌then◌else◌}
use Rattle.std.specs.Int.{w64}
use Rattle.std.specs.List.{range_with_len}
use Rattle.std.specs.Option.{option_map}
use Rattle.olap_base.specs.Instance.{Instance}
use Rattle.olap_base.specs.Limits.{most_count, most_members}
use Rattle.olap_base.specs.Reaching.{reaches}
use Rattle.olap_base.specs.Summaries.{Summary, ◌⊕◌}
use Rattle.olap_base.specs.Views.{Fact, members, total_of_facts}
use Rattle.olap_view.specs.Bounds.{IsUpTo}
use Rattle.olap_view.specs.Seen.{summary_of}
use Rattle.olap_view.specs.SummaryTables.{Summarized, stands_at}
use Rattle.olap_view.specs.Tables.{IsAmong}
use Rattle.olap_view.specs.declared.summaries.Summary as told

-- how many facts were added on an instance, and the total of their values at each member; only those at members of
-- some categories say something
pub record Tallied : Type 0 where
  pub instance : Instance
  pub categories : List ℕ
  pub added : ℕ
  pub summaries : List (Option Summary)

-- what stands at y
abbrev pub tallied_at : Tallied → ℕ → Option Summary
tallied_at t y = slice_index_or t.summaries y None

-- as many facts were added as the table has, and at each member of the categories stands the total of the values of the
-- facts that reach it
pub record StandsFor (t : Tallied) (facts : List (Fact ℕ)) : Type 0 where
  pub added : t.added ≡ length facts
  pub at : (y : ℕ) → IsAmong t.instance t.categories y → tallied_at t y ≡ total_of_facts (members t.instance) facts y

-- ---- within

-- for each member, from the first on, a summary or none of facts at it that aren't in the table
abbrev pub Waiting : Type 0
Waiting = List (Option told.Summary)

-- what waits at those of the members from the k-th on that reach y
abbrev pub waiting_from : Instance → ℕ → Waiting → ℕ → Option Summary
waiting_from i k [] y = None
waiting_from i k (o ∷ waiting) y =
    (if reaches i k y then option_map summary_of o else None) ⊕ waiting_from i (k + 1) waiting y

-- what waits at the members that reach y
abbrev pub waiting_at : Instance → Waiting → ℕ → Option Summary
waiting_at i waiting y = waiting_from i 0 waiting y

-- what a tally has counted in a summary table and in what waits
abbrev pub tallied : Summarized → Waiting → ℕ → Tallied
tallied t waiting n = record {
  instance = t.instance;
  categories = t.categories;
  added = n;
  summaries = map (λ y. stands_at t y ⊕ waiting_at t.instance waiting y) (range_with_len 0 (length t.instance));
}

-- in the summary table stands what the tally has counted
pub record IsTableOf (a : Tallied) (t : Summarized) : Type 0 where
  pub instance : t.instance ≡ a.instance
  pub categories : t.categories ≡ a.categories
  pub at : (y : ℕ) → IsAmong a.instance a.categories y → stands_at t y ≡ tallied_at a y

-- no greater than the summary of n values of 64 bits can be
abbrev pub IsWithin : ℕ → Summary → Type 0
IsWithin n = IsUpTo n (n * 2 ^ 63)

-- so is what stands at each member of a table's categories
abbrev pub IsTableWithin : ℕ → Summarized → Type 0
IsTableWithin n t = (y : ℕ) → IsAmong t.instance t.categories y → IfSome (stands_at t y) (IsWithin n)

-- so is what waits at each member
abbrev pub IsWaitingWithin : ℕ → Waiting → Type 0
IsWaitingWithin n waiting = (x : ℕ) → IfSome (option_map summary_of (slice_index_or waiting x None)) (IsWithin n)

-- it stands for some fact table whose values are of 64 bits, and nothing in it is greater than their total can be
pub record IsTally (t : Summarized) (waiting : Waiting) (n : ℕ) : Type 0 where
  pub few : n ≤ most_count
  pub members : length t.instance ≤ most_members
  pub places : length waiting ≤ length t.instance
  pub in_table : IsTableWithin n t
  pub in_waiting : IsWaitingWithin n waiting
  pub facts : List (Fact ℕ)
  pub values : All (λ f. FitsSigned w64 f.value) facts
  pub stands : StandsFor (tallied t waiting n) facts
