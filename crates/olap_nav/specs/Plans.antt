-- Which stored views a view is computed from.
--     sources_in    the categories of the views whose bits are in a mask
--     rows_in       how many rows they have
--     Serves        the target is summarizable from them
--     IsNoDearer    a mask costs no more than another
--     IsPlan        the mask that serves and costs least
use Rattle.std.specs.Prelude.{◌≡◌, ◌⊎◌, ℕ, ◌<◌, ◌≤◌, ◌^◌, List, length, map, sum_by}
use Rattle.olap_ast.specs.Schema.{Schema}
use Rattle.olap_ast.specs.Summarizable.{IsSummarizable}
use Rattle.olap_base.specs.Views.{View}
use Rattle.olap_view.specs.Stores.{chosen}

-- the categories of views
abbrev pub categories_of : List (View ℕ ℕ) → List ℕ
categories_of views = map (λ v. v.target) views

-- the categories of the views whose bits are in the mask
abbrev pub sources_in : List (View ℕ ℕ) → ℕ → List ℕ
sources_in views mask = map (λ v. v.target) (chosen views mask)

-- how many rows these views have
abbrev pub rows_in : List (View ℕ ℕ) → ℕ → ℕ
rows_in views mask = sum_by (λ v. length v.rows) (chosen views mask)

-- the mask has no bit without a view, and c is summarizable from the categories of its views
pub record Serves (s : Schema) (views : List (View ℕ ℕ)) (c mask : ℕ) : Type 0 where
  pub within : mask < 2 ^ length views
  pub summarizable : IsSummarizable s c (sources_in views mask)

-- fewer rows, or as many and no greater a mask
abbrev pub IsNoDearer : List (View ℕ ℕ) → ℕ → ℕ → Type 0
IsNoDearer views m n = (rows_in views m < rows_in views n) ⊎ ((rows_in views m ≡ rows_in views n) × (m ≤ n))

-- among all masks that serve the one with the fewest rows, and among these the smallest
pub record IsPlan (s : Schema) (views : List (View ℕ ℕ)) (c mask : ℕ) : Type 0 where
  pub serves : Serves s views c mask
  pub cheapest : (m : ℕ) → Serves s views c m → IsNoDearer views mask m
