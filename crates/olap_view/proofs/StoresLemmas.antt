-- The views that a mask chooses, view by view, and how many rows a view has.
use Rattle.std.proofs.Common.{◌≡◌, ◌≢◌, ℕ, ◌+◌, ◌<◌, ◌≤◌, ◌||◌, map, refl, suc, List, [], ◌∷◌, ◌++◌, length, get_or, take, Bool, true, false, cond, ap, sym, ◌∙◌, arith}
use Rattle.std.proofs.lemmas.Bool.Decides.{Decides-eqb}
use Rattle.std.proofs.lemmas.List.{append-nil, flat_map_more, length-map, length-take-le, map-append, take_more}
use Rattle.std.proofs.lemmas.Map.{Made.IsDistinct-from_AllPairs, Steps.length-le_from_distinct_below}
use Rattle.std.specs.{Int.bit_at, List.list_any, Prelude.{◌==◌, All, AllPairs, flat_map}}
use Rattle.olap_base.specs.Views.{Row, View}
use Rattle.olap_view.specs.{Seen.{each_view_of, rows_of, view_of}, Stores.{chosen, chosen_from}}
use Rattle.olap_view.specs.declared.views.View as told

-- the chosen of the views with one more
chosen_more : (k : ℕ) (views : List (View ℕ ℕ)) (v : View ℕ ℕ) (mask : ℕ) → chosen_from k (views ++ v ∷ []) mask
    ≡ chosen_from k views mask ++ cond (bit_at mask (k + length views) == 1) (v ∷ []) []
chosen_more k [] v mask = let e : k ≡ k + 0 = omega arith in ap (λ n. cond (bit_at mask n == 1) (v ∷ []) []) e
chosen_more k (x ∷ views) v mask = grind (arith, chosen_more (k + 1) views v mask)

-- the rows of chosen views
abbrev pub rows_chosen : List (View ℕ ℕ) → ℕ → List (Row ℕ)
rows_chosen views mask = flat_map (λ v. v.rows) (chosen views mask)

module _ (views : List told.View) (k : ℕ) (v : told.View) (mask : ℕ) (h : k < length views)
    (e : v ≡ get_or views k v) where
  -- the chosen up to the next view
  last_is : (b : Bool) → (bit_at mask k == 1) ≡ b → chosen (each_view_of (take (k + 1) views)) mask
      ≡ chosen (each_view_of (take k views)) mask ++ cond b (view_of v ∷ []) []
  last_is b t =
      let place : 0 + length (each_view_of (take k views)) ≡ k =
      let t = length-take-le {A = told.View} k views (omega arith) in
      let l = length-map (take k views) view_of in
      omega arith in
      ap (λ l. chosen (each_view_of l) mask) (take_more views k v h)
      ∙ ap (λ l. chosen l mask) (map-append view_of (take k views) (get_or views k v ∷ []))
      ∙ ap (λ w. chosen (each_view_of (take k views) ++ view_of w ∷ []) mask) (sym e)
      ∙ chosen_more 0 (each_view_of (take k views)) (view_of v) mask
      ∙ ap (λ n. chosen (each_view_of (take k views)) mask ++ cond (bit_at mask n == 1) (view_of v ∷ []) []) place
      ∙ ap (λ t. chosen (each_view_of (take k views)) mask ++ cond t (view_of v ∷ []) []) t

  -- the k-th view's bit is in the mask
  pub rows_chosen_more : (bit_at mask k == 1) ≡ true → rows_chosen (each_view_of (take (k + 1) views)) mask
      ≡ rows_chosen (each_view_of (take k views)) mask ++ rows_of v.rows
  rows_chosen_more t = ap (flat_map (λ (w : View ℕ ℕ). w.rows)) (last_is true t)
      ∙ sym (flat_map_more (λ (w : View ℕ ℕ). w.rows) [] (chosen (each_view_of (take k views)) mask) (view_of v))

  -- it isn't
  pub rows_chosen_same : (bit_at mask k == 1) ≡ false → rows_chosen (each_view_of (take (k + 1) views)) mask
      ≡ rows_chosen (each_view_of (take k views)) mask
  rows_chosen_same t = ap (flat_map (λ (w : View ℕ ℕ). w.rows))
      (last_is false t ∙ append-nil (chosen (each_view_of (take k views)) mask))

-- what holds of the member of each row holds of a member that is found among them
found_below : (n : ℕ) (rows : List (Row ℕ)) → All (λ r. r.at < n) rows → (q : ℕ)
    → list_any (λ m. q == m) (map (λ r. r.at) rows) ≡ true → q < n
found_below n [] a q t = cc t
found_below n (r ∷ rows) a q t = go (q == r.at) refl t (found_below n rows (λ k d l. a (suc k) d (omega arith)) q)
  where
    go : (b : Bool) → (q == r.at) ≡ b → (b || list_any (λ m. q == m) (map (λ r. r.at) rows)) ≡ true
        → (list_any (λ m. q == m) (map (λ r. r.at) rows) ≡ true → q < n) → q < n
    go true e t f = let s : q ≡ r.at = (Decides-eqb q r.at).0 e in let i = a 0 r (omega arith) in omega arith
    go false e t f = f t

-- rows at different members below n are n at most
pub few_rows : (n : ℕ) (rows : List (Row ℕ)) → AllPairs ◌≢◌ (map (λ r. r.at) rows) → All (λ r. r.at < n) rows
    → length rows ≤ n
few_rows n rows d a =
    let l = length-le_from_distinct_below (map (λ r. r.at) rows) n
    (IsDistinct-from_AllPairs Decides-eqb (map (λ r. r.at) rows) d) (found_below n rows a) in
    let m = length-map rows (λ r. r.at) in
    omega arith
