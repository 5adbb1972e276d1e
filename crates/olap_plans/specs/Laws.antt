-- What the definitions leave no choice in, and what a plan gives.
--     AnswersAreOne          a question has one status and one list of bytes at most
--     PlanIsOne              there is one plan at most
--     PlansGiveDirectViews   a plan over the direct views of one fact table gives the direct view of its target
use Rattle.std.specs.Prelude.{◌≡◌, ℕ, List}
use Rattle.olap_ast.specs.Schema.{Schema, IsLegal}
use Rattle.olap_base.specs.Instance.{Instance}
use Rattle.olap_base.specs.Views.{Fact, IsFactTable, View, direct_rows, direct_views, members, rows_from_views}
use Rattle.olap_nav.specs.Plans.{IsPlan, categories_of}
use Rattle.olap_order.specs.declared.status.Status.{Status}
use Rattle.olap_plans.specs.Questions.{IsAnswer, Question}
use Rattle.olap_view.specs.Stores.{chosen}

-- a question has one status and one list of bytes at most
abbrev pub AnswersAreOne : Type 0
AnswersAreOne = (q : Question) (s t : Status) (b c : List ℕ) → IsAnswer q s b → IsAnswer q t c → (s ≡ t) × (b ≡ c)

-- a target has one plan at most
abbrev pub PlanIsOne : Type 0
PlanIsOne = (s : Schema) (views : List (View ℕ ℕ)) (c m n : ℕ) → IsPlan s views c m → IsPlan s views c n → m ≡ n

-- if the stored views are the direct views of one fact table on a legal instance, a plan for c gives the direct view
-- of c
abbrev pub PlansGiveDirectViews : Type 0
PlansGiveDirectViews = (s : Schema) (i : Instance) (views : List (View ℕ ℕ)) (c mask : ℕ) → IsLegal s i
    → IsPlan s views c mask → (facts : List (Fact ℕ)) → IsFactTable s.graph i facts
    → views ≡ direct_views (members i) facts (categories_of views)
    → rows_from_views (members i) c (chosen views mask) ≡ direct_rows (members i) c facts
