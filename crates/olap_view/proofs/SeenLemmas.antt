-- The rows and the views of the definitions, place by place.
use Rattle.std.proofs.Common.{◌≡◌, ℕ, ◌+◌, ◌<◌, List, [], ◌∷◌, ◌++◌, length, get_or, take, ap, sym, subst, ◌∙◌, ◌≤◌, arith, length-take}
use Rattle.std.{proofs.lemmas.List.{get_or-map, length-map, map-append, take-map, take_more}, specs.Prelude.All}
use Rattle.olap_base.specs.Views.{Row, View}
use Rattle.olap_view.specs.Seen.{each_view_of, row_of, rows_of, view_of}
use Rattle.olap_view.specs.declared.views.Row as told_row
use Rattle.olap_view.specs.declared.views.View as told_view

-- rows with one more
pub rows_more_is : (rows : List told_row.Row) (k : ℕ) (d : told_row.Row) → k < length rows
    → rows_of (take (k + 1) rows) ≡ rows_of (take k rows) ++ row_of (get_or rows k d) ∷ []
rows_more_is rows k d h = ap rows_of (take_more rows k d h) ∙ map-append row_of (take k rows) (get_or rows k d ∷ [])

-- what holds of each row holds of the k-th
pub each_row : (P : Row ℕ → Type 0) (rows : List told_row.Row) (k : ℕ) (d : told_row.Row) → k < length rows
    → All P (rows_of rows) → P (row_of (get_or rows k d))
each_row P rows k d h a = subst P (get_or-map row_of rows k d (row_of d) h) (a k (row_of d) (simp length-map h))

-- what holds of each view holds of the k-th
pub each_view : (P : View ℕ ℕ → Type 0) (views : List told_view.View) (k : ℕ) (v : told_view.View) → k < length views
    → v ≡ get_or views k v → All P (each_view_of views) → P (view_of v)
each_view P views k v h e a = subst (λ (w : told_view.View). P (view_of w)) (sym e)
    (subst P (get_or-map view_of views k v (view_of v) h) (a k (view_of v) (simp length-map h)))

-- the first k rows
pub rows_of_taken : (rows : List told_row.Row) (k : ℕ) → take k (rows_of rows) ≡ rows_of (take k rows)
rows_of_taken rows k = take-map row_of k rows

-- the first rows are no more than all
pub rows_taken : (rows : List told_row.Row) (k : ℕ) → length (rows_of (take k rows)) ≤ length rows
rows_taken rows k = let l = length-map (take k rows) row_of in let m = length-take k rows in omega arith
