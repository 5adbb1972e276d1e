-- What is printed about the input that is made from a seed and a number of stores.
--     ShowsGenerated   seven lines on the input, the plan for its regions, and the view that it gives
use Rattle.std.specs.Prelude.{◌≡◌, ℕ, ◌-◌, List, [], ◌∷◌, ◌++◌, ℤ, pos, ◌+ℤ◌, codes, decimal, fold, length, sum_by}
use Rattle.std.specs.Fmt.{signed_decimal}
use Rattle.olap_ast.specs.Schema.{Schema}
use Rattle.olap_base.specs.Bytes.{line_feed, space}
use Rattle.olap_base.specs.Instance.{Instance}
use Rattle.olap_base.specs.Views.{Fact, Row, View, direct_views, members, rows_from_views}
use Rattle.olap_nav.specs.Plans.{IsPlan, sources_in}
use Rattle.olap_nav.specs.PlanText.{plan_text}
use Rattle.olap_view.specs.Stores.{chosen}
use Rattle.olap_generate.specs.Inputs.{IsMade}
use Rattle.olap_generate.specs.Location.{city, province, region, state}

-- the views that are stored: of states, provinces and cities
abbrev pub stored_views : Instance → List (Fact ℕ) → List (View ℕ ℕ)
stored_views i facts = direct_views (members i) facts (state ∷ province ∷ city ∷ [])

-- how many rows they have together
abbrev pub row_count : List (View ℕ ℕ) → ℕ
row_count views = sum_by (λ v. length v.rows) views

-- a line of a word and a number
abbrev pub counted : List ℕ → List ℕ → List ℕ
counted word number = word ++ space ∷ number ++ line_feed ∷ []

-- the sums of the rows together
abbrev pub sum_of_rows : List (Row ℕ) → ℤ
sum_of_rows rows = fold (λ s r. s +ℤ r.summary.sum) (pos 0) rows

-- the lines: members without `all`, facts, stored rows, the plan, and of the regions' view the rows, the total of their
-- counts and the total of their sums
abbrev pub generated_text : Schema → Instance → List (Fact ℕ) → ℕ → List ℕ
generated_text schema i facts mask =
    let views = stored_views i facts in
    let rows = rows_from_views (members i) region (chosen views mask) in
    counted (codes "members") (decimal (length i - 1))
    ++ counted (codes "facts") (decimal (length facts))
    ++ counted (codes "stored") (decimal (row_count views))
    ++ plan_text schema.graph (sources_in views mask)
    ++ counted (codes "rows") (decimal (length rows))
    ++ counted (codes "count") (decimal (sum_by (λ r. r.summary.count) rows))
    ++ counted (codes "sum") (signed_decimal (sum_of_rows rows))

-- the texts that are made have no fault, the instance is legal, and these are the lines on them and on the plan for its
-- regions
pub record ShowsGenerated (seed size : ℕ) (bytes : List ℕ) : Type 0 where
  pub schema : Schema
  pub members : Instance
  pub facts : List (Fact ℕ)
  pub mask : ℕ
  pub made : IsMade seed size schema members facts
  pub plan : IsPlan schema (stored_views members facts) region mask
  pub text : bytes ≡ generated_text schema members facts mask
