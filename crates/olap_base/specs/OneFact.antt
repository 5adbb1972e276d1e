-- The views of one fact of value 1: what a counterexample to summarizability shows.
--     HoldsTimes       a property holds at exactly n places of a list
--     ones             the summary of n ones
--     OneFactsViews    the direct view of one fact, and the view from the sources' views
use Rattle.std.specs.Prelude.{◌≡◌, ◌⊎◌, ℕ, zero, suc, List, [], ◌∷◌, pos, Option, Some, None}
use Rattle.std.specs.List.{cons_option}
use Rattle.olap_base.specs.Graph.{Graph}
use Rattle.olap_base.specs.Instance.{Instance, IsLawful, IsMemberOf, Reaches, ReachesVia}
use Rattle.olap_base.specs.Summaries.{Summary}
use Rattle.olap_base.specs.Views.{direct_rows, direct_views, members, one_fact, row_at, rows_from_views}

-- P holds at exactly n places of the list
abbrev pub HoldsTimes : {A : Type 0} → (A → Type 0) → List A → ℕ → Type 0
HoldsTimes P [] n = n ≡ 0
HoldsTimes P (x ∷ xs) n = (P x × (m : ℕ) × (n ≡ suc m) × HoldsTimes P xs m) ⊎ ((P x → ⊥) × HoldsTimes P xs n)

-- the summary of n ones, if there are any
abbrev pub ones : ℕ → Option Summary
ones zero = None
ones (suc n) = Some (record { count = suc n; sum = pos (suc n); least = pos 1; greatest = pos 1 })

-- where the fact's member x reaches y: the direct view is the one row of y, and the view from the sources has as
-- many ones at y as there are sources by which x reaches y, or no row if there is none
abbrev pub OneFactsViews : Type 0
OneFactsViews = (g : Graph) (i : Instance) → IsLawful g i → (c x y : ℕ) → IsMemberOf i c y → Reaches i x y →
    (sources : List ℕ) (n : ℕ) → HoldsTimes (λ s. ReachesVia i x s c) sources n →
    (direct_rows (members i) c (one_fact x) ≡ cons_option (row_at y (ones 1)) [])
    × (rows_from_views (members i) c (direct_views (members i) (one_fact x) sources)
    ≡ cons_option (row_at y (ones n)) [])
