-- A tally of a cube's facts: the totals of the values, by tuples of the target's members.
--     key_of           the key of a tuple: its members, and zeros up to four numbers
--     IsTupleAncestor  the one tuple of the target that a tuple reaches
--     summary_at       what stands at a key
--     IsWithin         the entries are of at most n values
--     CubeTallied      what a tally has counted
--     CubeStandsFor    it stands for a fact table
--     IsCubeTally      what is true of every tally
use Rattle.std.specs.Prelude.{◌≡◌, ◌*◌, ◌^◌, Bool, ℕ, zero, suc, ◌≤◌, List, [], ◌∷◌, length, filter, map, sum_by, take, All, FitsSigned, Ok, Option, IsSome}
use Rattle.std.specs.Cmp.Lexicographic.{slice_cmp}
use Rattle.std.specs.Int.{w64}
use Rattle.std.specs.BTreeMap.{is_at}
use Rattle.std.specs.Ordering.{nat_cmp}
use Rattle.std.specs.declared.cmp.Ordering.{Ordering}
use Rattle.olap_base.specs.Graph.{Graph}
use Rattle.olap_base.specs.Instance.{Instance, IsMember}
use Rattle.olap_base.specs.Limits.{most_count, most_facts}
use Rattle.olap_base.specs.Summaries.{Summary, total}
use Rattle.olap_base.specs.Views.{Fact, Row, total_of_facts}
use Rattle.olap_cube.specs.CubeViews.{tuples}
use Rattle.olap_cube.specs.Tuples.{IsTupleOf, TupleReaches}
use Rattle.olap_view.specs.Columns.{Ascent}
use Rattle.olap_view.specs.Bounds.{IsUpTo}
use Rattle.olap_cube.specs.Limits.{most_dimensions}
use Rattle.olap_cube_views.specs.CubeFactText.{cube_facts_read_within}
use Rattle.olap_cube_views.specs.Dimensions.{categories_in, instances_in}
use Rattle.olap_cube_views.specs.Seen.{entry_of}
use Rattle.olap_cube_views.specs.declared.views.CubeRow as told_row

-- ---- the tuple that a fact reaches

-- y is the one tuple of members of c that x reaches
pub record IsTupleAncestor (is : List Instance) (x c y : List ℕ) : Type 0 where
  pub is_tuple : IsTupleOf is c y
  pub reached : TupleReaches is x y
  pub only : (w : List ℕ) → IsTupleOf is c w → TupleReaches is x w → w ≡ y

-- x reaches no tuple of members of c
abbrev pub ReachesNone : List Instance → List ℕ → List ℕ → Type 0
ReachesNone is x c = (w : List ℕ) → IsTupleOf is c w → TupleReaches is x w → ⊥

-- each is a member of its instance
abbrev pub AreMembers : List Instance → List ℕ → Type 0
AreMembers [] [] = Unit {0}
AreMembers (i ∷ is) (x ∷ xs) = IsMember i x × AreMembers is xs
AreMembers _ _ = ⊥

-- ---- keys

-- the first numbers of a list, and zeros where it has fewer
abbrev pub filled : ℕ → List ℕ → List ℕ
filled zero ys = []
filled (suc n) [] = 0 ∷ filled n []
filled (suc n) (y ∷ ys) = y ∷ filled n ys

-- the key of a tuple
abbrev pub key_of : List ℕ → List ℕ
key_of ys = filled most_dimensions ys

-- keys are compared number by number
abbrev pub key_cmp : List ℕ → List ℕ → Ordering
key_cmp = slice_cmp nat_cmp

-- whether two keys are one
abbrev pub is_key : List ℕ → List ℕ → Bool
is_key p q = is_at (key_cmp p) q

-- a key with a summary
abbrev pub Entry : Type 0
Entry = List ℕ × Summary

-- the entries of rows
abbrev pub entries_of : List told_row.CubeRow → List Entry
entries_of rows = map entry_of rows

-- what stands at a key: the total of its entries
abbrev pub summary_at : List Entry → List ℕ → Option Summary
summary_at entries q = total (map (λ e. e.1) (filter (λ e. is_key q e.0) entries))

-- a summary of as many values of 64 bits as its count says
abbrev pub IsOwn : Entry → Type 0
IsOwn e = IsUpTo e.1.count (e.1.count * 2 ^ 63) e.1

-- the entries' summaries are of at most n values of 64 bits, all together
pub record IsWithin (n : ℕ) (entries : List Entry) : Type 0 where
  pub each : All IsOwn entries
  pub all : sum_by (λ e. e.1.count) entries ≤ n

-- the row of an entry, if there are this many dimensions
abbrev pub row_of_entry : ℕ → Entry → Row (List ℕ)
row_of_entry k e = record { at = take k e.0; summary = e.1 }

-- ---- tallies

-- how many facts were added on some instances, and the totals of their values at tuples of members of the target
pub record CubeTallied : Type 0 where
  pub instances : List Instance
  pub target : List ℕ
  pub added : ℕ
  pub entries : List Entry

-- a key is that of a tuple of members of the target
abbrev pub IsKeyOf : List Instance → List ℕ → List ℕ → Type 0
IsKeyOf is c q = (y : List ℕ) × IsTupleOf is c y × (q ≡ key_of y)

-- as many facts were added as the table has, at each tuple of the target stands the total of the values of the facts
-- that reach it, and nothing stands at any other key
pub record CubeStandsFor (t : CubeTallied) (facts : List (Fact (List ℕ))) : Type 0 where
  pub added : t.added ≡ length facts
  pub at : (y : List ℕ) → IsTupleOf t.instances t.target y
      → summary_at t.entries (key_of y) ≡ total_of_facts (tuples t.instances) facts y
  pub keys : (q : List ℕ) → IsSome (summary_at t.entries q) → IsKeyOf t.instances t.target q

-- the records stand for facts, and it stands for those
pub record HasTallied (gs : List Graph) (is : List Instance) (records : List (List (List ℕ))) (t : CubeTallied)
    : Type 0 where
  pub facts : List (Fact (List ℕ))
  pub read : cube_facts_read_within most_facts gs is records ≡ Ok facts
  pub stands : CubeStandsFor t facts

-- it stands for some fact table whose values are of 64 bits
pub record IsCubeTally (t : CubeTallied) : Type 0 where
  pub dimensions : length t.instances ≤ most_dimensions
  pub few : t.added ≤ most_count
  pub within : IsWithin t.added t.entries
  pub facts : List (Fact (List ℕ))
  pub values : All (λ f. FitsSigned w64 f.value) facts
  pub stands : CubeStandsFor t facts

-- what a tally over columns and rows has counted
abbrev pub tallied : List Ascent → List told_row.CubeRow → ℕ → CubeTallied
tallied columns rows n = record {
  instances = instances_in columns;
  target = categories_in columns;
  added = n;
  entries = entries_of rows;
}
