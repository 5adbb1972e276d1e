-- Rows of views that are joined.
use Rattle.std.proofs.Common.{◌≡◌, ℕ, ◌*◌, ◌≤◌, List, [], ◌∷◌, ◌++◌, length, sym, subst, arith, Option, Some, None, IfSome}
use Rattle.std.proofs.lemmas.List.{append-nil, map-append, Elements.{All-filter, filter-append}}
use Rattle.std.specs.Prelude.{All, filter}
use Rattle.olap_base.{proofs.ListLemmas.length-filter, proofs.TotalLemmas.{total_push, ⊕_none}, specs.Instance.Instance}
use Rattle.olap_base.specs.{Limits.{most_count, most_members, most_sum, most_views}, Reaching.reaches}
use Rattle.olap_base.specs.{Summaries.{Summary, ◌⊕◌}, Views.Row}
use Rattle.olap_view.proofs.{SummaryLemmas.{joinable, stored_up_to, total_of_stored}, TallyLemmas.among}
use Rattle.olap_view.specs.{Bounds.{IsJoinable, IsUpTo}, Merging.{AreMerged, total_of_rows}, Stores.IsStored}
use Rattle.olap_view.specs.{SummaryTables.{Summarized, stands_at}, Tables.{IsAmong, when}}

-- a stored row may be joined
pub stored_small : (r : Row ℕ) → IsStored r → IsJoinable r.summary
stored_small r q = joinable most_count most_sum r.summary (omega arith) (omega arith) (stored_up_to r q)

-- no rows leave nothing
pub merged_start : (t : Summarized) → ((y : ℕ) → IsAmong t.instance t.categories y → stands_at t y ≡ None)
    → AreMerged [] t
merged_start t e = record { at = e }

-- one row more adds its summary where its member reaches
total_more : (i : Instance) (rows : List (Row ℕ)) (r : Row ℕ) (y : ℕ)
    → total_of_rows i (rows ++ r ∷ []) y ≡ total_of_rows i rows y ⊕ when (reaches i r.at y) r.summary
total_more i rows r y = grind (arith, filter-append, map-append, total_push, append-nil, ⊕_none)

-- one row more
pub merged_more : (rows : List (Row ℕ)) (r : Row ℕ) (t u : Summarized) → u.instance ≡ t.instance
    → u.categories ≡ t.categories
    → ((y : ℕ) → IsAmong t.instance t.categories y
    → stands_at u y ≡ stands_at t y ⊕ when (reaches t.instance r.at y) r.summary)
    → AreMerged rows t → AreMerged (rows ++ r ∷ []) u
merged_more rows r t u e g j a = grind (arith, among, total_more)

-- the rows at members that reach y
abbrev reaching : Instance → List (Row ℕ) → ℕ → List (Row ℕ)
reaching i rows y = filter (λ (r : Row ℕ). reaches i r.at y) rows

-- what few stored rows come to may be joined
pub holds_room : (rows : List (Row ℕ)) (t : Summarized) → length rows ≤ most_views * most_members → All IsStored rows
    → AreMerged rows t → (y : ℕ) → IsAmong t.instance t.categories y → IfSome (stands_at t y) IsJoinable
holds_room rows t h q a y m =
    subst (λ (o : Option Summary). IfSome o IsJoinable) (sym (a.at y m))
    (go (length (reaching t.instance rows y)) (length-filter (λ (r : Row ℕ). reaches t.instance r.at y) rows)
    (total_of_rows t.instance rows y)
    (total_of_stored (reaching t.instance rows y)
    (All-filter (λ (r : Row ℕ). reaches t.instance r.at y) IsStored rows q)))
  where
    go : (n : ℕ) → n ≤ length rows → (o : Option Summary) → IfSome o (IsUpTo (n * most_count) (n * most_sum))
        → IfSome o IsJoinable
    go n l None u = u
    go n l (Some s) u = joinable (n * most_count) (n * most_sum) s (omega arith) (omega arith) u
